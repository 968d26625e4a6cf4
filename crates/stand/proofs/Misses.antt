-- A box that misses the stand: document 02, 2.1.
use Rattle.std.proofs.Common.{◌≡◌, ℕ, ◌+◌, ◌-◌, ◌<◌, ◌≤◌, min, true, false, cond, not, ℤ, pos, negsuc, ◌+ℤ◌, ◌-ℤ◌, neg_ℤ, nat_abs, sym, refl, ap, ◌∙◌, subst, ⊎_elim, arith, leb-false, leb-true}
use mathlib.Core.Bool.{false≢true}
use mathlib.Core.List.Memᴰ
use mathlib.Core.List.{Memᴰ}
use lib.Dec.{leb-zero}
use lib.IntN.{+ℤ_comm, +ℤ_idl}
use lib.Signed.{le_z, lt_z}
use Rattle.arith.proofs.Order.{le-sub, lt_not, past-lt, shift_le, sub-le}
use Rattle.stand.specs.Fill.{below_on, below_spot, between, box_cells, box_of, cells_in, high_cell, high_z, low_cell, low_z, misses, misses_on, past, spanning}
use Rattle.stand.specs.Shape.{Shape, inside, opens, product}
use Rattle.stand.specs.declared.Cell.{Cell}
use Rattle.stand.proofs.Box.{below-le, low-high, none-x, none-y, none-z}
use Rattle.stand.proofs.Parts.{InBox, InSpan, box-inside, box-length, length_none, spot_cell}
use Rattle.stand.proofs.Common.{box-between, box_has}
use Rattle.stand.proofs.Levels.{below_next}
use Rattle.stand.proofs.Shape.{goods}
use Rattle.stand.proofs.Tests.{by-test, neither, or_cases}

-- ---- it has no common part with it

end_by : (n : ℕ) (z : ℤ) → le_z (pos n) z ≡ true → cond (le_z (pos 0) z) (min (nat_abs z) n) 0 ≡ n
end_by n (pos m) e = let l = leb-true n m e in rw (leb-zero m) (omega arith)
end_by n (negsuc m) e = absurd (false≢true e)

start_by : (n : ℕ) (z : ℤ) → le_z z (pos 0) ≡ true → cond (le_z (pos 0) z) (min (nat_abs z) n) 0 ≡ 0
start_by n (pos m) e = let l = leb-true m 0 e in rw (leb-zero m) (omega arith)
start_by n (negsuc m) e = refl

module _ (o : ℤ) (n : ℕ) (c : ℤ) where
  -- all cells lie below what is past the last
  below_all : le_z (o +ℤ pos n) c ≡ true → below_on o n c ≡ n
  unfolding below_on
  below_all e = end_by n (c -ℤ o) (le-sub (pos n) c o ∙ ap (λ (z : ℤ). le_z z c) (+ℤ_comm (pos n) o) ∙ e)

  -- and none below the first
  below_none : le_z c o ≡ true → below_on o n c ≡ 0
  unfolding below_on
  below_none e = start_by n (c -ℤ o) (sub-le c (pos 0) o ∙ ap (le_z c) (+ℤ_idl o) ∙ e)

misses_span : (o : ℤ) (n : ℕ) (a b : ℤ) → misses_on o n a b ≡ true → below_on o n (high_z a b +ℤ pos 1) - below_on o n (low_z a b) ≡ 0
unfolding misses_on
misses_span o n a b e =
    ⊎_elim
    (λ p. let q = below_none o n (high_z a b +ℤ pos 1) (past-lt o (high_z a b) ∙ p) in omega arith)
    (λ p. let q = below_all o n (low_z a b) p in omega (arith, below-le o n (high_z a b +ℤ pos 1)))
    (or_cases (lt_z (high_z a b) o) _ e)

module _ (g : Shape) (a b : Cell) where
  misses-none : misses g a b ≡ true → cells_in (box_of g a b) ≡ 0
  unfolding misses box_of spanning below_spot past low_cell high_cell cells_in product
  misses-none e =
      ⊎_elim
      (λ x. none-x _ _ _ (misses_span _ _ _ _ x))
      (λ r.
      ⊎_elim
      (λ y. none-y _ _ _ (misses_span _ _ _ _ y))
      (λ z. none-z _ _ _ (misses_span _ _ _ _ z))
      (or_cases (misses_on g.origin.y g.size.y a.y b.y) _ r))
      (or_cases (misses_on g.origin.x g.size.x a.x b.x) _ e)

  -- no cell inside is between its corners
  pub misses-apart : misses g a b ≡ true → (c : Cell) → inside g c ≡ true → between a b c ≡ false
  misses-apart e c i =
      by-test (between a b c)
      (λ t. absurd (Memᴰ.not-nil (subst (Memᴰ c) (length_none (box_cells g (box_of g a b)) (box-length g (box_of g a b) ∙ misses-none e)) (box_has g a b c i t))))
      (λ t. t)

-- ---- and one that does not miss it has some

meet_by : (n : ℕ) (z w : ℤ) → 1 ≤ n → le_z (pos 0) w ≡ true → le_z (pos n) z ≡ false → le_z z w ≡ true
    → cond (le_z (pos 0) z) (min (nat_abs z) n) 0 < cond (le_z (pos 0) w) (min (nat_abs w + 1) n) 0
meet_by n (pos i) (pos j) h p q r = let l = leb-false n i q in let k = leb-true i j r in rw (leb-zero i, leb-zero j) (omega arith)
meet_by n (negsuc i) (pos j) h p q r = rw (leb-zero j) (omega arith)
meet_by n (pos i) (negsuc j) h p q r = absurd (false≢true p)
meet_by n (negsuc i) (negsuc j) h p q r = absurd (false≢true p)

meets_span : (o : ℤ) (n : ℕ) (a b : ℤ) → 1 ≤ n → misses_on o n a b ≡ false → below_on o n (low_z a b) < below_on o n (high_z a b +ℤ pos 1)
unfolding misses_on below_on
meets_span o n a b h e =
    let t = neither (lt_z (high_z a b) o) _ e in
    let u : le_z o (high_z a b) ≡ true = by-test (le_z o (high_z a b)) (λ y. y) (λ y. absurd (false≢true (sym t.0 ∙ lt_not o (high_z a b) ∙ ap not y))) in
    let w = le-sub (pos 0) (high_z a b) o ∙ ap (λ (i : ℤ). le_z i (high_z a b)) (+ℤ_idl o) ∙ u in
    let z = le-sub (pos n) (low_z a b) o ∙ ap (λ (i : ℤ). le_z i (low_z a b)) (+ℤ_comm (pos n) o) ∙ t.1 in
    let r = shift_le (low_z a b) (high_z a b) (neg_ℤ o) ∙ low-high a b in
    let s = below_next o n (high_z a b) in
    omega (arith, meet_by n (low_z a b -ℤ o) (high_z a b -ℤ o) h w z r)

some_span : (p q : ℕ) → p < q → InSpan p (q - p) p
some_span p q l = record { from = omega arith; to = omega arith }

module _ (g : Shape) (a b : Cell) (ok : opens g ≡ true) where
  low_in : misses g a b ≡ false → InBox (box_of g a b) (box_of g a b).low
  unfolding opens misses box_of spanning below_spot past low_cell high_cell
  low_in e =
      let k = goods _ _ _ ok in
      let p = neither (misses_on g.origin.x g.size.x a.x b.x) _ e in
      let q = neither (misses_on g.origin.y g.size.y a.y b.y) _ p.1 in
      record {
        x = some_span _ _ (meets_span _ _ _ _ k.x.some p.0);
        y = some_span _ _ (meets_span _ _ _ _ k.y.some q.0);
        z = some_span _ _ (meets_span _ _ _ _ k.z.some q.1);
      }

  -- so a box with no cell of the stand misses it
  pub apart-misses : ((c : Cell) → inside g c ≡ true → between a b c ≡ false) → misses g a b ≡ true
  apart-misses h =
      by-test (misses g a b) (λ e. e)
      (λ e.
      let m = spot_cell g (box_of g a b) (box_of g a b).low (low_in e) in
      absurd (false≢true (sym (h _ (box-inside g a b _ m)) ∙ box-between g a b _ m)))
