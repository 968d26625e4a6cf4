use Rattle.std.proofs.Common.{rules, ◌≡◌, ◌+◌, ◌*◌, None, arith}
use Rattle.std.specs.Option.{IsSomeAnd, MatchOption}
use Rattle.mesh.proofs.Laid.{filled_as, filled_row, row_planes}
use Rattle.mesh.proofs.plane.fill_plane.Goals as goal

pub loop-v-preserved : goal.loop-v-preserved
loop-v-preserved c =
    let a = c.args in
    let v = c.loop-v.v in
    let m : MatchOption a.next (c.map.result ≡ None) (λ n. IsSomeAnd c.map.result (λ r. (r.cells ≡ n.cells) × (r.at ≡ n.at + v * a.g.second))) = search rules in
    filled_row c.requires.mask_in.apart c.loop-v.invariant
    (filled_as (λ u x _ _. row_planes a.g v a.here c.on.result a.next c.map.result c.on.ensures.0 c.on.ensures.1 m u x) c.fill_row-row.ensures)

pub returns : goal.returns
returns c =
    let e : c.loop-v.v ≡ c.args.g.h = omega arith in
    rw e at c.loop-v.invariant
