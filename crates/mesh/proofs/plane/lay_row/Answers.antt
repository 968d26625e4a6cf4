use Rattle.std.proofs.Common.{◌≡◌, arith}
use Rattle.mesh.proofs.Laid.{filled-slot}
use Rattle.mesh.proofs.plane.lay_row.Goals as goal

pub loop-u-preserved : goal.loop-u-preserved
loop-u-preserved g c = (
  omega (arith, c.loop-u.invariant.0),
  λ f h. filled-slot c.shows-x.result (h _ _ c.loop-u-test.true (rw c.loop-u.invariant.0 at c.shows-x.ensures)) (c.loop-u.invariant.1 f h) (omega (arith, c.requires.room)),
)

pub returns : goal.returns
returns g c f h =
    let e : c.loop-u.u ≡ c.args.w = omega arith in
    rw e at (c.loop-u.invariant.1 f h)
