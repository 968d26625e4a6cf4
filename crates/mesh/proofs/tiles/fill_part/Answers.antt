use Rattle.std.proofs.Common.{arith}
use Rattle.mesh.proofs.Laid.{filled_none}
use Rattle.mesh.proofs.Tiling.{band_in, high-all, part_more, second_is}
use Rattle.mesh.proofs.tiles.fill_part.Goals as goal

pub loop-b-init : goal.loop-b-init
loop-b-init c = filled_none (λ u v a b. omega arith)

pub fill_band-any-requires : goal.fill_band-any-requires
fill_band-any-requires c =
    let a = c.args in
    band_in a.p a.side.number a.slice c.loop-b.b c.requires.0 (omega (arith, c.loop-b-test.true, second_is a.side a.p.across c.on_axis-b-end.ensures)) c.requires.1 c.loop-b.invariant.mask

pub loop-b-preserved : goal.loop-b-preserved
loop-b-preserved c =
    let a = c.args in
    part_more a.p a.side.number a.slice c.loop-b.b c.requires.0 (omega (arith, c.loop-b-test.true, second_is a.side a.p.across c.on_axis-b-end.ensures)) c.loop-b.invariant c.fill_band-any.ensures

pub returns : goal.returns
returns c =
    let a = c.args in
    rw (high-all a.p a.side.number c.loop-b.b (omega (arith, second_is a.side a.p.across c.on_axis-b-end.ensures))) at c.loop-b.invariant
