use Rattle.std.proofs.Common.{◌∙◌, ℕ, ◌+◌, arith, length-set}
use Rattle.std.proofs.lemmas.List.Edits.{fill_by_more}
use Rattle.mesh.specs.Plane.{seen_at}
use Rattle.mesh.proofs.plane.see_row.Goals as goal

pub loop-u-preserved : goal.loop-u-preserved
unfolding seen_at
loop-u-preserved c =
    let i = c.loop-u.invariant in
    let f : ℕ → ℕ = λ k. seen_at c.args.here.cells.now c.args.next.cells.now (c.args.here.at + k) (c.args.next.at + k) in
    (length-set c.loop-u.row c.loop-u.u c.seen.result ∙ i.0, rw c.seen.ensures (fill_by_more f c.loop-u.row c.loop-u.u 0 (omega arith) i.1))
