-- A part along a side's axes: its extents, its cells, and where a section's cells are stored.
use mathlib.Core.Path.{◌≡◌, refl, ap, ◌∙◌}
use mathlib.Core.Bool.{true, cond}
use Prim.Native.Nat.{ℕ, zero, suc, ◌+◌, ◌-◌, ◌*◌, ◌/◌, ◌≤◌, ◌<◌, min, max}
use native.Mathlib.Nat.{div-lt_iff_lt-mul, mod-lt, mul_assoc, mul_comm}
use native.Mathlib.Omega.{arith}
use lib.Arith.{digits_div, digits_mod}
use lib.Dec.{eqb}
use Rattle.stand.specs.Shape.{Below, Shape, chunk_place, chunks_in, chunks_on, corner, counted, inside, over, point_of, product, rest, section_at, sections, slot, slot_at, within_at}
use Rattle.stand.specs.Sides.{first_at, normal_at, second_at}
use Rattle.stand.specs.declared.volume.shape.Point.{Point}
use Rattle.stand.specs.declared.volume.shape.Region.{Region}
use Rattle.stand.proofs.Formed.{some-x, some-y}
use Rattle.stand.proofs.Shape.{Within, inside-from, slot-from}
use Rattle.stand.proofs.Sides.{six}
use Rattle.stand.proofs.Slots.{section-place}
use Rattle.mesh.specs.Part.{added, cell_in, depth_of, facing, height_of, largest_side, on_axis, section_part, turned, width_of}
use Rattle.mesh.specs.Step.{stride_on}
use Rattle.mesh.specs.Tiles.{PartIn}

-- ---- the axes of a side, in three arrangements

pub arranged : (P : ℕ → ℕ → ℕ → Type 0) → P 0 1 2 → P 1 0 2 → P 2 0 1 → (s : ℕ) → s < 6 → P (normal_at s) (first_at s) (second_at s)
unfolding normal_at first_at second_at
arranged P a b c = six (λ s. P (normal_at s) (first_at s) (second_at s)) a a b b c c

abbrev along : ℕ → ℕ → ℕ → ℕ → ℕ → ℕ → ℕ
along a n f k u v = cond (eqb a n) k (cond (eqb a f) u v)

-- an axis that is neither 0 nor 1
pub third : (P : ℕ → Type 0) → ((b : ℕ) → P (suc (suc b))) → (a : ℕ) → (a ≡ 0 → ⊥) → (a ≡ 1 → ⊥) → P a
third P h zero n m = absurd (n refl)
third P h (suc zero) n m = absurd (m refl)
third P h (suc (suc b)) n m = h b

-- `facing` by the axes
abbrev pub facing_of : ℕ → ℕ → ℕ → ℕ → ℕ → Point
facing_of n f k u v = point_of (along 0 n f k u v) (along 1 n f k u v) (along 2 n f k u v)

pub points : {a b c x y z : ℕ} → a ≡ x → b ≡ y → c ≡ z → point_of a b c ≡ point_of x y z
points p q r = λ i. point_of (p i) (q i) (r i)

-- numbers below those of a point
pub facing-below : (s : ℕ) → s < 6 → (k u v : ℕ) (p : Point) → k < on_axis (normal_at s) p → u < on_axis (first_at s) p → v < on_axis (second_at s) p → Within p (facing s k u v)
unfolding facing turned
facing-below s h k u v p =
    arranged (λ n f t. k < on_axis n p → u < on_axis f p → v < on_axis t p → Within p (facing_of n f k u v))
    (λ a b c. record { x = a; y = b; z = c })
    (λ a b c. record { x = b; y = a; z = c })
    (λ a b c. record { x = b; y = c; z = a })
    s h

-- ---- parts inside a shape

-- a cell of a slice of a part
module _ (g : Shape) (r : Region) (s k u v : ℕ) (p : PartIn g r) (h : s < 6) (hk : k < depth_of r s) (hu : u < width_of r s) (hv : v < height_of r s) where
  pub cell_below : Within r.count (facing s k u v)
  unfolding depth_of width_of height_of
  cell_below = facing-below s h k u v r.count hk hu hv

  pub cell-within : Within g.size (added r.low (facing s k u v))
  unfolding added
  cell-within =
      let b = cell_below in
      record { x = omega (arith, p.x, b.x); y = omega (arith, p.y, b.y); z = omega (arith, p.z, b.z) }

  pub cell-inside : inside g (cell_in g r s k u v) ≡ true
  unfolding cell_in
  cell-inside = inside-from g (added r.low (facing s k u v)) cell-within

-- ---- the largest side

pub side_largest : (r : Region) (s : ℕ) → s < 6 → width_of r s * height_of r s ≤ largest_side r
unfolding width_of height_of largest_side
side_largest r s h =
    arranged (λ n f t. on_axis f r.count * on_axis t r.count ≤ max (r.count.x * r.count.y) (max (r.count.x * r.count.z) (r.count.y * r.count.z)))
    (omega arith) (omega arith) (omega arith) s h

-- ---- a section's extents

-- along one axis: n cells, those of the section at place p from 16 p on
pub record Cut (n p c : ℕ) : Type 0 where
  pub some : 1 ≤ c
  pub most : c ≤ 16
  pub fits : p * 16 + c ≤ n
  pub is : c ≡ min 16 (n - p * 16)

cuts : (n p : ℕ) → p < chunks_on n → Cut n p (min 16 (n - p * 16))
unfolding chunks_on
cuts n p h = record { some = omega arith; most = omega arith; fits = omega arith; is = refl }

module _ (k : Point) (i : ℕ) (h : i < product k) where
  pub place_in : Within k (chunk_place k i)
  unfolding chunk_place product
  place_in =
      record {
        x = mod-lt i (some-x k i h);
        y = mod-lt (i / k.x) (some-y k i h);
        z = (div-lt_iff_lt-mul (some-y k i h)).1 ((div-lt_iff_lt-mul (some-x k i h)).1 (omega (arith, mul_assoc k.z k.y k.x, mul_comm k.z (k.y * k.x), mul_comm k.y k.x)));
      }

-- the extents of a section along a side's axes
pub record Extents (r : Region) (s : ℕ) : Type 0 where
  pub deep : 1 ≤ depth_of r s
  pub wide : 1 ≤ width_of r s
  pub high : 1 ≤ height_of r s
  pub depth : depth_of r s ≤ 16
  pub width : width_of r s ≤ 16
  pub height : height_of r s ≤ 16

module _ (g : Shape) (i : ℕ) (h : i < sections g) where
  pub section-on : (a : ℕ) → Cut (on_axis a g.size) (on_axis a (chunk_place (counted g) i)) (on_axis a (section_part g i).count)
  unfolding sections section_part corner counted chunks_in
  section-on zero = cuts g.size.x _ (place_in (counted g) i h).x
  section-on (suc zero) = cuts g.size.y _ (place_in (counted g) i h).y
  section-on (suc (suc a)) = cuts g.size.z _ (place_in (counted g) i h).z

  pub section_extents : (s : ℕ) → Extents (section_part g i) s
  unfolding depth_of width_of height_of
  section_extents s =
      let n = section-on (normal_at s) in
      let f = section-on (first_at s) in
      let t = section-on (second_at s) in
      record { deep = n.some; wide = f.some; high = t.some; depth = n.most; width = f.most; height = t.most }

  pub section_in : PartIn g (section_part g i)
  unfolding section_part corner
  section_in = record { x = (section-on 0).fits; y = (section-on 1).fits; z = (section-on 2).fits }

  pub section-below : Below 17 (section_part g i).count
  section-below = record { x = omega (arith, (section-on 0).most); y = omega (arith, (section-on 1).most); z = omega (arith, (section-on 2).most) }

-- ---- where cells are stored

-- the lowest cell of the section at a place
abbrev pub scaled : Point → Point
scaled p = point_of (p.x * 16) (p.y * 16) (p.z * 16)

pub slot_in : (k p w : Point) → Below 16 w → slot_at k (added (scaled p) w) ≡ section_at k p * 4096 + within_at w
unfolding slot_at over rest added
slot_in k p w h =
    λ i. section_at k (point_of (digits_div p.x h.x i) (digits_div p.y h.y i) (digits_div p.z h.z i)) * 4096
    + within_at (point_of (digits_mod p.x h.x i) (digits_mod p.y h.y i) (digits_mod p.z h.z i))

pub within-lt : (w : Point) → Below 16 w → within_at w < 4096
unfolding within_at
within-lt w h = omega (arith, h.x, h.y, h.z)

pub facing_sixteen : (s k u v : ℕ) → s < 6 → k < 16 → u < 16 → v < 16 → Below 16 (facing s k u v)
unfolding facing turned
facing_sixteen s k u v h a b c =
    arranged (λ n f t. Below 16 (facing_of n f k u v))
    (record { x = a; y = b; z = c }) (record { x = b; y = a; z = c }) (record { x = b; y = c; z = a }) s h

-- the index within a section, by the steps along a side's axes
pub within-facing : (s k u v : ℕ) → s < 6 → within_at (facing s k u v) ≡ k * stride_on (normal_at s) + v * stride_on (second_at s) + u * stride_on (first_at s)
unfolding facing turned within_at
within-facing s k u v h =
    arranged (λ n f t. within_at (facing_of n f k u v) ≡ k * stride_on n + v * stride_on t + u * stride_on f)
    (omega arith) (omega arith) (omega arith) s h

-- a cell of a slice of a section
module _ (g : Shape) (i s k u v : ℕ) (h : i < sections g) (hs : s < 6) (hk : k < depth_of (section_part g i) s) (hu : u < width_of (section_part g i) s) (hv : v < height_of (section_part g i) s) where
  pub section-inside : inside g (cell_in g (section_part g i) s k u v) ≡ true
  section-inside = cell-inside g (section_part g i) s k u v (section_in g i h) hs hk hu hv

  facing-within : Below 16 (facing s k u v)
  facing-within =
      let b = cell_below g (section_part g i) s k u v (section_in g i h) hs hk hu hv in
      let m = section-below g i h in
      record { x = omega (arith, b.x, m.x); y = omega (arith, b.y, m.y); z = omega (arith, b.z, m.z) }

  pub section-slot : slot g (cell_in g (section_part g i) s k u v) ≡ i * 4096 + within_at (facing s k u v)
  unfolding cell_in section_part corner
  section-slot =
      slot-from g (added (section_part g i).low (facing s k u v))
      ∙ slot_in (counted g) (chunk_place (counted g) i) (facing s k u v) facing-within
      ∙ ap (λ (n : ℕ). n * 4096 + within_at (facing s k u v)) (section-place (counted g) i)
