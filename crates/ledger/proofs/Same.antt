-- The book's test for one and the same cell.
use mathlib.Core.Path.{◌≡◌, ap}
use mathlib.Core.Bool.{true, ◌&&◌, false≢true}
use native.Mathlib.Omega.{arith}
use borrow.Author.Tests.{le-leb, leb-true}
use lib.Dec.{leb}
use lib.IntN.{ℤ, pos, negsuc}
use lib.Signed.{le_z}
use Rattle.stand.specs.declared.Cell.{Cell}
use Rattle.stand.proofs.Tests.{both}
use Rattle.ledger.specs.Book.{same_cell}

same-on : (a b : ℤ) → (le_z a b && le_z b a) ≡ true → a ≡ b
same-on (pos a) (pos b) e = let p = both (leb a b) (leb b a) e in ap pos (omega (arith, leb-true a b p.0, leb-true b a p.1))
same-on (pos a) (negsuc b) e = absurd (false≢true e)
same-on (negsuc a) (pos b) e = absurd (false≢true e)
same-on (negsuc a) (negsuc b) e = let p = both (leb b a) (leb a b) e in ap negsuc (omega (arith, leb-true b a p.0, leb-true a b p.1))

on_same : (a : ℤ) → (le_z a a && le_z a a) ≡ true
on_same (pos a) = rw (le-leb a a (omega arith))
on_same (negsuc a) = rw (le-leb a a (omega arith))

pub same-cells : (c d : Cell) → same_cell c d ≡ true → c ≡ d
unfolding same_cell
same-cells c d e =
    let p = both (le_z c.x d.x && le_z d.x c.x) _ e in
    let q = both (le_z c.y d.y && le_z d.y c.y) (le_z c.z d.z && le_z d.z c.z) p.1 in
    λ i. record { x = same-on c.x d.x p.0 i; y = same-on c.y d.y q.0 i; z = same-on c.z d.z q.1 i }

pub cells_same : (c : Cell) → same_cell c c ≡ true
unfolding same_cell
cells_same c = rw (on_same c.x, on_same c.y, on_same c.z)
