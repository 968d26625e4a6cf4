-- Laws of the common part of box and stand: by levels, where there is none, and that it is inside.
use Rattle.std.proofs.Common.{◌≡◌, ℕ, Option, Some, None, ◌+◌, ◌-◌, ◌*◌, ◌≤◌, min, max, Bool, true, false, cond, eqb, ℤ, pos, negsuc, ◌+ℤ◌, ◌-ℤ◌, nat_abs, sym, refl, ap, ◌∙◌, mul-zero, zero-mul, arith, w32, SFits, eq-eqb, ne_eqb, eqb-true, leb-false, leb-true}
use mathlib.Core.Bool.{false≢true}
use lib.Signed.{le_z}
use Rattle.arith.proofs.Order.{le-other}
use Rattle.arith.specs.Level.{level_of}
use Rattle.stand.specs.Fill.{Inside, Spanned, SpannedSome, below_at, below_on, below_spot, box_of, cells_in, common_of, high_cell, high_z, low_cell, low_z, past, spanning}
use Rattle.stand.specs.Shape.{reach_of, Below, Ranged, Shape, levels_of, point_of, product, shape_of}
use borrow.Author.Tests.{eqb-false}
use Rattle.std.proofs.lemmas.Option.{none-some, same_Some}
use Rattle.stand.specs.declared.Cell.{Cell}
use Rattle.stand.specs.declared.volume.Volume.{Volume}
use Rattle.stand.specs.declared.volume.shape.Span.{Span}
use Rattle.stand.specs.declared.volume.shape.Reach.{Reach}
use Rattle.stand.specs.declared.volume.shape.Point.{Point}
use Rattle.stand.specs.declared.volume.shape.Region.{Region}
use Rattle.stand.proofs.Levels.{below_law, past_law}
use Rattle.stand.proofs.Shape.{product-some}
use Rattle.stand.proofs.Tests.{by-test}

-- ---- corners ordered

-- by levels, whichever way the test goes
orders : (t : Bool) (a b : ℤ) → SFits w32 a → SFits w32 b → le_z a b ≡ t → (level_of (cond t a b) ≡ min (level_of a) (level_of b)) × (level_of (cond t b a) ≡ max (level_of a) (level_of b))
orders true (pos a) (pos b) f g e = let h = leb-true a b e in omega arith
orders true (pos a) (negsuc b) f g e = absurd (false≢true e)
orders true (negsuc a) (pos b) f g e = omega arith
orders true (negsuc a) (negsuc b) f g e = let h = leb-true b a e in omega (arith, f.sfits, g.sfits)
orders false (pos a) (pos b) f g e = let h = leb-false a b e in omega arith
orders false (pos a) (negsuc b) f g e = omega arith
orders false (negsuc a) (pos b) f g e = absurd (false≢true (sym e))
orders false (negsuc a) (negsuc b) f g e = let h = leb-false b a e in omega (arith, f.sfits, g.sfits)

pick_fits : (t : Bool) {a b : ℤ} → SFits w32 a → SFits w32 b → SFits w32 (cond t a b)
pick_fits true f g = f
pick_fits false f g = g

module _ (a b : ℤ) (fa : SFits w32 a) (fb : SFits w32 b) where
  low_level : level_of (low_z a b) ≡ min (level_of a) (level_of b)
  unfolding low_z
  low_level = (orders (le_z a b) a b fa fb refl).0

  high_level : level_of (high_z a b) ≡ max (level_of a) (level_of b)
  unfolding high_z
  high_level = (orders (le_z a b) a b fa fb refl).1

  low_fits : SFits w32 (low_z a b)
  unfolding low_z
  low_fits = pick_fits (le_z a b) fa fb

  high_fits : SFits w32 (high_z a b)
  unfolding high_z
  high_fits = pick_fits (le_z a b) fb fa

pub low-high : (a b : ℤ) → le_z (low_z a b) (high_z a b) ≡ true
unfolding low_z high_z
low-high a b = by (le_z a b) refl
  where
    by : (t : Bool) → le_z a b ≡ t → le_z (cond t a b) (cond t b a) ≡ true
    by true e = e
    by false e = le-other a b e

-- one axis
module _ (o : ℤ) (n : ℕ) (a b : ℤ) (fo : SFits w32 o) (fa : SFits w32 a) (fb : SFits w32 b) where
  low_below : below_on o n (low_z a b) ≡ below_at (level_of o) n (min (level_of a) (level_of b))
  low_below = below_law o n (low_z a b) fo (low_fits a b fa fb) ∙ ap (below_at (level_of o) n) (low_level a b fa fb)

  high-past : below_on o n (high_z a b +ℤ pos 1) ≡ below_at (level_of o) n (max (level_of a) (level_of b) + 1)
  high-past = past_law o n (high_z a b) fo (high_fits a b fa fb) ∙ ap (λ (l : ℕ). below_at (level_of o) n (l + 1)) (high_level a b fa fb)

  axis_box : {lo ln la lb low count : ℕ} → lo ≡ level_of o → ln ≡ n → la ≡ level_of a → lb ≡ level_of b → Spanned lo ln la lb low count
      → (low ≡ below_on o n (low_z a b)) × (count ≡ below_on o n (high_z a b +ℤ pos 1) - below_on o n (low_z a b))
  axis_box eo en ea eb s =
      let l = s.low-is ∙ (λ i. below_at (eo i) (en i) (min (ea i) (eb i))) ∙ sym low_below in
      let h = (λ i. below_at (eo i) (en i) (max (ea i) (eb i) + 1)) ∙ sym high-past in
      (l, s.count-is ∙ λ i. h i - l i)

-- ---- a product is 0 where one of its numbers is

pub none-x : (n m l : ℕ) → n ≡ 0 → n * m * l ≡ 0
none-x n m l e = rw (e, zero-mul m, zero-mul l)

pub none-y : (n m l : ℕ) → m ≡ 0 → n * m * l ≡ 0
none-y n m l e = rw (e, mul-zero n, zero-mul l)

pub none-z : (n m l : ℕ) → l ≡ 0 → n * m * l ≡ 0
none-z n m l e = rw (e, mul-zero (n * m))

-- and only there
none_not : (n m l : ℕ) → (n ≡ 0 → ⊥) → (m ≡ 0 → ⊥) → (l ≡ 0 → ⊥) → n * m * l ≡ 0 → ⊥
none_not n m l hn hm hl e = omega (arith, product-some n m l (omega arith) (omega arith) (omega arith))

-- ---- the common part, or none

module _ (g : Shape) (a b : Cell) where
  is_none : cells_in (box_of g a b) ≡ 0 → None ≡ common_of g a b
  unfolding common_of
  is_none e = rw (eq-eqb _ 0 e)

  is_some : (k : Region) → k ≡ box_of g a b → (cells_in (box_of g a b) ≡ 0 → ⊥) → Some k ≡ common_of g a b
  unfolding common_of
  is_some k e h = rw (ne_eqb (cells_in (box_of g a b)) 0 h) (ap Some e)

  pub common_none : None ≡ common_of g a b → cells_in (box_of g a b) ≡ 0
  unfolding common_of
  common_none =
      by-test (eqb (cells_in (box_of g a b)) 0) (λ p e. eqb-true _ 0 p) (λ p e. absurd (none-some _ (rw p at e)))

  pub common_box : (k : Region) → Some k ≡ common_of g a b → (k ≡ box_of g a b) × (cells_in k ≡ 0 → ⊥)
  unfolding common_of
  common_box k =
      by-test (eqb (cells_in (box_of g a b)) 0) (λ p e. absurd (none-some k (sym (rw p at e))))
      (λ p e. let q = same_Some _ _ (rw p at e) in (q, λ z. eqb-false _ _ p (sym (ap cells_in q) ∙ z)))

-- by levels, axis after axis
abbrev Leveled : Point → Cell → Type 0
Leveled o c = (o ≡ levels_of c) × Below 4294967296 o × Ranged c

module _ (v : Volume) (a b : Cell) {s : Reach} {p q : Point} (e : s ≡ reach_of v) (r : Ranged v.origin) (la : Leveled p a) (lb : Leveled q b) where
  on-x : {low count : ℕ} → Spanned s.x.low s.x.count p.x q.x low count → (low ≡ (box_of (shape_of v) a b).low.x) × (count ≡ (box_of (shape_of v) a b).count.x)
  unfolding shape_of box_of spanning below_spot past low_cell high_cell
  on-x = axis_box _ _ _ _ r.x la.2.x lb.2.x (λ j. (e j).x.low) (λ j. (e j).x.count) (λ j. (la.0 j).x) (λ j. (lb.0 j).x)

  on-y : {low count : ℕ} → Spanned s.y.low s.y.count p.y q.y low count → (low ≡ (box_of (shape_of v) a b).low.y) × (count ≡ (box_of (shape_of v) a b).count.y)
  unfolding shape_of box_of spanning below_spot past low_cell high_cell
  on-y = axis_box _ _ _ _ r.y la.2.y lb.2.y (λ j. (e j).y.low) (λ j. (e j).y.count) (λ j. (la.0 j).y) (λ j. (lb.0 j).y)

  on-z : {low count : ℕ} → Spanned s.z.low s.z.count p.z q.z low count → (low ≡ (box_of (shape_of v) a b).low.z) × (count ≡ (box_of (shape_of v) a b).count.z)
  unfolding shape_of box_of spanning below_spot past low_cell high_cell
  on-z = axis_box _ _ _ _ r.z la.2.z lb.2.z (λ j. (e j).z.low) (λ j. (e j).z.count) (λ j. (la.0 j).z) (λ j. (lb.0 j).z)

  pub common_x : {r : Option Region} {low : ℕ} → Spanned s.x.low s.x.count p.x q.x low 0 → r ≡ None → r ≡ common_of (shape_of v) a b
  unfolding cells_in product
  common_x t q = q ∙ is_none (shape_of v) a b (none-x _ _ _ (sym (on-x t).1))

  pub common_y : {r : Option Region} {low : ℕ} → Spanned s.y.low s.y.count p.y q.y low 0 → r ≡ None → r ≡ common_of (shape_of v) a b
  unfolding cells_in product
  common_y t q = q ∙ is_none (shape_of v) a b (none-y _ _ _ (sym (on-y t).1))

  pub common_z : {r : Option Region} {low : ℕ} → Spanned s.z.low s.z.count p.z q.z low 0 → r ≡ None → r ≡ common_of (shape_of v) a b
  unfolding cells_in product
  common_z t q = q ∙ is_none (shape_of v) a b (none-z _ _ _ (sym (on-z t).1))

  pub common_is : {x y z : Span} → SpannedSome s.x.low s.x.count p.x q.x (Some x) → SpannedSome s.y.low s.y.count p.y q.y (Some y) → SpannedSome s.z.low s.z.count p.z q.z (Some z)
      → Some (record { low = point_of x.low y.low z.low; count = point_of x.count y.count z.count }) ≡ common_of (shape_of v) a b
  unfolding cells_in product
  common_is x y z =
      let i = on-x x.0 in
      let j = on-y y.0 in
      let k = on-z z.0 in
      is_some (shape_of v) a b _ (λ t. record { low = point_of (i.0 t) (j.0 t) (k.0 t); count = point_of (i.1 t) (j.1 t) (k.1 t) })
      (none_not _ _ _ (λ e. x.1 (i.1 ∙ e)) (λ e. y.1 (j.1 ∙ e)) (λ e. z.1 (k.1 ∙ e)))

-- one for each return of the code
pub ruleset box_laws = (common_x, common_y, common_z, common_is)

-- ---- the common part is inside

below-cond : (t : Bool) (m n : ℕ) → cond t (min m n) 0 ≤ n
below-cond true m n = omega arith
below-cond false m n = omega arith

pub below-le : (o : ℤ) (n : ℕ) (c : ℤ) → below_on o n c ≤ n
unfolding below_on
below-le o n c = below-cond (le_z (pos 0) (c -ℤ o)) (nat_abs (c -ℤ o)) n

span_in : (n p q : ℕ) → p ≤ n → q ≤ n → p + (q - p) ≤ n
span_in n p q hp hq = omega arith

pub box_in : (g : Shape) (a b : Cell) → Inside g (box_of g a b)
unfolding box_of spanning below_spot past
box_in g a b =
    record {
      x = span_in _ _ _ (below-le _ _ _) (below-le _ _ _);
      y = span_in _ _ _ (below-le _ _ _) (below-le _ _ _);
      z = span_in _ _ _ (below-le _ _ _) (below-le _ _ _);
    }
