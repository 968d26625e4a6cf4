use Rattle.std.proofs.Common.{rules, ℕ, ◌+◌, ◌*◌, get_or, arith}
use native.Mathlib.Nat.{mul-le-mul}
use Rattle.mesh.specs.Plane.{seen_at}
use Rattle.mesh.proofs.plane.fill_row.Goals as goal

pub lay_row-requires-clause-fits : goal.lay_row-requires-clause-fits
lay_row-requires-clause-fits c = omega (arith, mul-le-mul c.requires.near.0 c.requires.near.1)

pub lay_row-requires-2-clause-fits : goal.lay_row-requires-2-clause-fits
lay_row-requires-2-clause-fits c = omega (arith, mul-le-mul c.requires.near.0 c.requires.near.1)

pub returns-in_default : goal.returns-in_default
returns-in_default c =
    let a = c.args in
    let f : ℕ → ℕ = λ u. get_or a.here.cells.now (a.here.at + u * a.g.first) 0 in
    rw c.in_default.is (c.lay_row.ensures f (λ u x l p. search rules))

pub returns-then-g-eq16 : goal.returns-then-g-eq16
returns-then-g-eq16 c = rw (c.in-Some.is, c.if-step-eq1.true, c.if-g-eq16.true) c.full_row.ensures

pub returns : goal.returns
unfolding seen_at
returns c =
    let a = c.args in
    let n = c.in-Some.next in
    let f : ℕ → ℕ = λ u. seen_at a.here.cells.now n.cells.now (a.here.at + u * a.g.first) (n.at + u * a.g.first) in
    rw c.in-Some.is (c.lay_row-2.ensures f (λ u x l p. search rules))
