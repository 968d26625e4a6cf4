-- The common part of the box of a fill and a stand: document 02, 2.1.
use mathlib.Core.Path.{◌≡◌, refl, sym, ap, ◌∙◌, subst}
use mathlib.Core.Bool.{Bool, true, false, cond, not, ◌&&◌}
use mathlib.Core.HLevel.{⊥_prop}
use mathlib.Core.Logic.{∥∥₁_elim}
use mathlib.Core.List.Memᴰ
use mathlib.Core.List.Pairwise
use mathlib.Core.List.{List, Memᴰ, Nodup, Nodup-append, not-mem-nil}
use Prim.Native.Nat.{ℕ, zero, suc, ◌+◌, ◌-◌, ◌≤◌, ◌<◌, min}
use native.Mathlib.Omega.{arith}
use borrow.Author.Tests.{le-leb, lt-ltb, leb-true, ltb-true}
use lib.Dec.{leb, ltb, leb-zero}
use lib.IntN.{ℤ, pos, negsuc, ◌+ℤ◌, ◌-ℤ◌, nat_abs, +ℤ_comm}
use lib.Signed.{le_z}
use Rattle.arith.proofs.Order.{lt_not, ltb_not, past-lt, sub-le}
use Rattle.stand.specs.Fill.{below_on, below_spot, between, between_on, box_cells, box_of, high_cell, high_z, low_cell, low_z, past, plane_cells, row_cells, spanning}
use Rattle.stand.specs.Shape.{Shape, cell_from, clamp_on, clamp_spot, distance, inside, point_of}
use Rattle.stand.specs.declared.Cell.{Cell}
use Rattle.stand.specs.declared.volume.shape.Point.{Point}
use Rattle.stand.specs.declared.volume.shape.Region.{Region}
use Rattle.stand.proofs.Box.{box_in}
use Rattle.stand.proofs.Parts.{InBox, InSpan, Parts, Spotted, cells_spotted, plane_spotted, planes, region_of, row_spotted, rows, solids, spot_cell, spotted_within}
use Rattle.stand.proofs.Levels.{below_next, leb_same}
use Rattle.stand.proofs.Shape.{Within, distance-from, from-distance, inside-within}
use Rattle.stand.proofs.Tests.{and_both, both}

-- ---- one axis

-- at most d cells lie below a coordinate if it is not above the cell at distance d, and only then
below_by : (n d : ℕ) → d < n → (z : ℤ) → leb (cond (le_z (pos 0) z) (min (nat_abs z) n) 0) d ≡ le_z z (pos d)
below_by n d h (pos m) = rw (leb-zero m) (leb_same (min m n) d m d (λ p. omega arith) (λ p. omega arith))
below_by n d h (negsuc m) = leb-zero d

module _ (o : ℤ) (n d : ℕ) (h : d < n) where
  below_at : (c : ℤ) → leb (below_on o n c) d ≡ le_z c (o +ℤ pos d)
  unfolding below_on
  below_at c =
      below_by n d h (c -ℤ o) ∙ sub-le c (pos d) o ∙ ap (le_z c) (+ℤ_comm (pos d) o)

  above_at : (c : ℤ) → ltb d (below_on o n (c +ℤ pos 1)) ≡ le_z (o +ℤ pos d) c
  above_at c = ltb_not d (below_on o n (c +ℤ pos 1)) ∙ ap not (below_at (c +ℤ pos 1) ∙ past-lt (o +ℤ pos d) c ∙ lt_not (o +ℤ pos d) c) ∙ twice (le_z (o +ℤ pos d) c)
    where
      twice : (t : Bool) → not (not t) ≡ t
      twice true = refl
      twice false = refl

  between-at : (a b : ℤ) → (leb (below_on o n (low_z a b)) d && ltb d (below_on o n (high_z a b +ℤ pos 1))) ≡ between_on a b (o +ℤ pos d)
  unfolding between_on
  between-at a b = λ i. below_at (low_z a b) i && above_at (high_z a b) i

-- ---- distances in the box, and cells between the corners

span_test : (p q d : ℕ) → InSpan p (q - p) d → (leb p d && ltb d q) ≡ true
span_test p q d l = rw (le-leb p d l.from, lt-ltb d q (omega (arith, l.from, l.to)))

test_span : (p q d : ℕ) → (leb p d && ltb d q) ≡ true → InSpan p (q - p) d
test_span p q d e =
    let t = both (leb p d) (ltb d q) e in
    let f = leb-true p d t.0 in
    let l = ltb-true d q t.1 in
    record { from = f; to = omega arith }

module _ (g : Shape) (a b : Cell) (d : Point) (w : Within g.size d) where
  box_test : InBox (box_of g a b) d → between a b (cell_from g d) ≡ true
  unfolding box_of spanning below_spot past low_cell high_cell between cell_from
  box_test r =
      and_both _ _
      (sym (between-at _ _ _ w.x a.x b.x) ∙ span_test _ _ _ r.x)
      (and_both _ _
      (sym (between-at _ _ _ w.y a.y b.y) ∙ span_test _ _ _ r.y)
      (sym (between-at _ _ _ w.z a.z b.z) ∙ span_test _ _ _ r.z))

  test_box : between a b (cell_from g d) ≡ true → InBox (box_of g a b) d
  unfolding box_of spanning below_spot past low_cell high_cell between cell_from
  test_box e =
      let p = both _ _ e in
      let q = both _ _ p.1 in
      record {
        x = test_span _ _ _ (between-at _ _ _ w.x a.x b.x ∙ p.0);
        y = test_span _ _ _ (between-at _ _ _ w.y a.y b.y ∙ q.0);
        z = test_span _ _ _ (between-at _ _ _ w.z a.z b.z ∙ q.1);
      }

-- ---- its cells are those that lie both in the box and in the stand

module _ (g : Shape) (a b c : Cell) where
  pub box-between : Memᴰ c (box_cells g (box_of g a b)) → between a b c ≡ true
  box-between m =
      let r = cells_spotted g (box_of g a b) c m in
      ap (between a b) r.is ∙ box_test g a b r.spot (spotted_within g (box_in g a b) r) r.in_box

  pub box_has : inside g c ≡ true → between a b c ≡ true → Memᴰ c (box_cells g (box_of g a b))
  box_has i e =
      subst (λ (d : Cell). Memᴰ d (box_cells g (box_of g a b))) (from-distance g c i)
      (spot_cell g (box_of g a b) (distance g c) (test_box g a b (distance g c) (inside-within g c i) (ap (between a b) (from-distance g c i) ∙ e)))

-- ---- where box and stand meet, their common part is the box clamped to the stand, as document 01 had it before 2.1

module _ (o : ℤ) (n d : ℕ) (h : d < n) (c : ℤ) where
  -- the lower corner, not above a cell inside
  low_clamped : below_on o n c ≤ d → below_on o n c ≡ clamp_on o n c
  unfolding below_on clamp_on
  low_clamped = by (le_z (pos 0) (c -ℤ o)) (nat_abs (c -ℤ o))
    where
      by : (t : Bool) (m : ℕ) → cond t (min m n) 0 ≤ d → cond t (min m n) 0 ≡ cond t (min m (n - 1)) 0
      by true m l = omega arith
      by false m l = refl

  -- the higher corner, not below one
  high_clamped : d < below_on o n (c +ℤ pos 1) → below_on o n (c +ℤ pos 1) ≡ clamp_on o n c + 1
  unfolding clamp_on
  high_clamped l = below_next o n c ∙ by (le_z (pos 0) (c -ℤ o)) (nat_abs (c -ℤ o)) (subst (λ (m : ℕ). d < m) (below_next o n c) l)
    where
      by : (t : Bool) (m : ℕ) → d < cond t (min (m + 1) n) 0 → cond t (min (m + 1) n) 0 ≡ cond t (min m (n - 1)) 0 + 1
      by true m l = omega arith
      by false m l = absurd (omega arith)

span_clamped : (o : ℤ) (n : ℕ) (a b : ℤ) (d : ℕ) → d < n → InSpan (below_on o n a) (below_on o n (b +ℤ pos 1) - below_on o n a) d
    → (below_on o n a ≡ clamp_on o n a) × (below_on o n (b +ℤ pos 1) - below_on o n a ≡ clamp_on o n b - clamp_on o n a + 1)
span_clamped o n a b d h s =
    let p = low_clamped o n d h a s.from in
    let q = high_clamped o n d h b (omega (arith, s.from, s.to)) in
    (p, omega (arith, s.from, s.to))

module _ (g : Shape) (a b c : Cell) where
  pub box_clamped : inside g c ≡ true → between a b c ≡ true
      → ((box_of g a b).low ≡ clamp_spot g (low_cell a b))
      × ((box_of g a b).count ≡ point_of
      ((clamp_spot g (high_cell a b)).x - (clamp_spot g (low_cell a b)).x + 1)
      ((clamp_spot g (high_cell a b)).y - (clamp_spot g (low_cell a b)).y + 1)
      ((clamp_spot g (high_cell a b)).z - (clamp_spot g (low_cell a b)).z + 1))
  unfolding box_of spanning below_spot past clamp_spot low_cell high_cell
  box_clamped i e =
      let w = inside-within g c i in
      let s = test_box g a b (distance g c) w (ap (between a b) (from-distance g c i) ∙ e) in
      let x = span_clamped g.origin.x g.size.x (low_z a.x b.x) (high_z a.x b.x) (distance g c).x w.x s.x in
      let y = span_clamped g.origin.y g.size.y (low_z a.y b.y) (high_z a.y b.y) (distance g c).y w.y s.y in
      let z = span_clamped g.origin.z g.size.z (low_z a.z b.z) (high_z a.z b.z) (distance g c).z w.z s.z in
      ((λ j. point_of (x.0 j) (y.0 j) (z.0 j)), (λ j. point_of (x.1 j) (y.1 j) (z.1 j)))

-- ---- each of them once

module _ {all part : Shape → ℕ → List Cell} {w : ℕ} (r : Parts all part w) (g : Shape) where
  -- parts that have no cell twice, and none that an earlier one has
  parts_once : (n : ℕ) → ((i : ℕ) → Nodup (part g i)) → ((i : ℕ) (c : Cell) → Memᴰ c (all g i) → Memᴰ c (part g i) → ⊥) → Nodup (all g n)
  parts_once zero own apart = subst (Nodup {A = Cell}) (sym (r.none g)) Pairwise.nil
  parts_once (suc n) own apart =
      subst (Nodup {A = Cell}) (sym (r.more g n))
      (Nodup-append.1 (parts_once n own apart, own n, λ c m k. ∥∥₁_elim m ⊥_prop (λ d. ∥∥₁_elim k ⊥_prop (apart n c d))))

-- the distances of a cell at distances in a box
spotted_distance : (g : Shape) (k : Region) (c : Cell) → Spotted g k c → InBox k (distance g c)
spotted_distance g k c r = subst (InBox k) (sym (ap (distance g) r.is ∙ distance-from g r.spot)) r.in_box

module _ (g : Shape) where
  row_once : (p : Point) (n : ℕ) → Nodup (row_cells g p n)
  row_once p n =
      parts_once (rows p) g n (λ i. Pairwise.cons (λ c m. absurd (not-mem-nil m)) Pairwise.nil)
      (λ i c m k.
      let e = ap (λ (d : Cell). (distance g d).x) (Memᴰ.eq_of_singleton k) ∙ ap (λ (d : Point). d.x) (distance-from g (point_of (p.x + i) p.y p.z)) in
      omega (arith, (spotted_distance g _ c (row_spotted g p i c m)).x.to))

  plane_once : (p : Point) (n m : ℕ) → Nodup (plane_cells g p n m)
  plane_once p n m =
      parts_once (planes p n) g m (λ i. row_once _ n)
      (λ i c d k. omega (arith, (spotted_distance g _ c (plane_spotted g p n i c d)).y.to, (spotted_distance g _ c (row_spotted g _ n c k)).y.from))

  pub box_once : (k : Region) → Nodup (box_cells g k)
  unfolding box_cells
  box_once k =
      let n = k.count.x in
      let m = k.count.y in
      parts_once (solids k.low n m) g k.count.z (λ i. plane_once _ n m)
      (λ i c d e. omega (arith, (spotted_distance g _ c (cells_spotted g (region_of k.low n m i) c d)).z.to, (spotted_distance g _ c (plane_spotted g _ n m c e)).z.from))
