use Rattle.std.proofs.Common.{rules, ◌≡◌, ◌∙◌, ℕ, ◌+◌, ◌*◌, get_or, mul-one}
use Rattle.mesh.specs.Plane.{seen_at}
use Rattle.mesh.proofs.plane.full_row.Goals as goal

pub returns : goal.returns
returns c =
    let a = c.args in
    let f : ℕ → ℕ = λ u. seen_at a.here.cells.now a.next.cells.now (a.here.at + u * 1) (a.next.at + u * 1) in
    c.lay_row.ensures f (λ u x l p.
    let e : x ≡ get_or c.see_row.new.row u 0 = search rules in
    rw mul-one (e ∙ c.see_row.ensures.seen u l))
