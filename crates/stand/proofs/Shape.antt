-- Laws of shapes and places, by numbers: sections, slots, and cells inside.
use Rattle.std.proofs.Common.{◌≡◌, ℕ, ◌+◌, ◌*◌, ◌/◌, ◌%◌, ◌<◌, ◌≤◌, true, ◌&&◌, ltb, leb, ℤ, pos, negsuc, ◌+ℤ◌, ◌-ℤ◌, nat_abs, sym, refl, ap, ◌∙◌, mul_assoc, mul_comm, mul-le-mul, mul_left_comm, arith, ltb-true, lt-ltb, eqb-true, leb-true}
use mathlib.Core.Bool.{false≢true}
use lib.Arith.{digits_lt, digits_div, digits_mod}
use lib.IntN.{+ℤ_comm, +ℤ-neg_ℤ_cancel, -ℤ-+ℤ_cancel}
use lib.Dec.{leb-zero}
use lib.Signed.{le_z, lt_z}
use Rattle.stand.specs.Cells.{cell_of}
use Rattle.stand.specs.Shape.{Shape, axis_good, cell_from, chunk_of, chunks_in, chunks_on, counted, counts_of, distance, good, inside, inside_on, last_fits, max_chunks, opens, over, point_of, product, rest, section_at, sections, shape_of, slot, slot_at, well_formed, within_at, Stored}
use Rattle.stand.specs.declared.Cell.{Cell}
use Rattle.stand.specs.declared.volume.Volume.{Volume}
use Rattle.stand.specs.declared.volume.shape.Point.{Point}
use Rattle.stand.proofs.Tests.{both}

-- ---- a shape that opening gives

pub record Axis (o : ℤ) (n k : ℕ) : Type 0 where
  pub some : 1 ≤ n
  pub last : last_fits o n ≡ true
  pub count : k ≡ chunks_on n

axis : (o : ℤ) (n k : ℕ) → axis_good o n k ≡ true → Axis o n k
unfolding axis_good
axis o n k e =
    let p = both _ _ e in
    let q = both _ _ p.1 in
    record { some = leb-true 1 n p.0; last = q.0; count = eqb-true _ _ q.1 }

pub record Good (o : Cell) (n k : Point) : Type 0 where
  pub x : Axis o.x n.x k.x
  pub y : Axis o.y n.y k.y
  pub z : Axis o.z n.z k.z
  pub few : product k ≤ max_chunks

pub goods : (o : Cell) (n k : Point) → good o n k ≡ true → Good o n k
unfolding good
goods o n k e =
    let p = both _ _ e in
    let q = both _ _ p.1 in
    let r = both _ _ q.1 in
    record { x = axis _ _ _ p.0; y = axis _ _ _ q.0; z = axis _ _ _ r.0; few = leb-true _ _ r.1 }

pub chunks-some : (n : ℕ) → 1 ≤ n → 1 ≤ chunks_on n
unfolding chunks_on
chunks-some n h = omega arith

-- sections are at least 1 and at most the limit
pub sections-few : (g : Shape) → opens g ≡ true → sections g ≤ max_chunks
unfolding opens sections
sections-few g e = (goods _ _ _ e).few

-- a product of three that are at least 1
pub product-some : (a b d : ℕ) → 1 ≤ a → 1 ≤ b → 1 ≤ d → 1 ≤ a * b * d
product-some a b d ha hb hd = mul-le-mul {n₁ = 1} {m₁ = 1} (mul-le-mul {n₁ = 1} {m₁ = 1} ha hb) hd

pub sections-some : (g : Shape) → opens g ≡ true → 1 ≤ sections g
unfolding opens sections product counted chunks_in
sections-some g e =
    let q = goods _ _ _ e in
    product-some _ _ _ (chunks-some _ q.x.some) (chunks-some _ q.y.some) (chunks-some _ q.z.some)

-- a header that 3 lets pass has the sections of its shape, which opening gives
pub formed-counts : (v : Volume) → well_formed v ≡ true → counts_of v.chunks ≡ counted (shape_of v)
unfolding well_formed counted chunks_in shape_of
formed-counts v e =
    let g = goods _ _ _ e in
    λ i. point_of (g.x.count i) (g.y.count i) (g.z.count i)

pub formed-opens : (v : Volume) → well_formed v ≡ true → opens (shape_of v) ≡ true
unfolding opens well_formed shape_of
formed-opens v e = rw (← formed-counts v e) e

-- headers of one origin and size have one shape
pub shape_same : (v w : Volume) → v.origin ≡ w.origin → v.size ≡ w.size → shape_of v ≡ shape_of w
unfolding shape_of
shape_same v w p q = λ i. record { origin = p i; size = counts_of (q i) }

-- ---- cells inside

inside-lt : (n : ℕ) (d : ℤ) → (le_z (pos 0) d && lt_z d (pos n)) ≡ true → nat_abs d < n
inside-lt n (pos m) e = ltb-true m n (both (leb 0 m) (ltb m n) e).1
inside-lt n (negsuc m) e = absurd (false≢true e)

pub record Within (n d : Point) : Type 0 where
  pub x : d.x < n.x
  pub y : d.y < n.y
  pub z : d.z < n.z

-- distances of a cell inside are below the size
pub inside-within : (g : Shape) (c : Cell) → inside g c ≡ true → Within g.size (distance g c)
unfolding inside inside_on distance
inside-within g c e =
    let p = both _ _ e in
    let q = both _ _ p.1 in
    record {
      x = inside-lt _ (c.x -ℤ g.origin.x) p.0;
      y = inside-lt _ (c.y -ℤ g.origin.y) q.0;
      z = inside-lt _ (c.z -ℤ g.origin.z) q.1;
    }

pub inside_on_lem : (g : Shape) (c : Cell) → inside g c ≡ true → (inside_on g.origin.x g.size.x c.x ≡ true) × (inside_on g.origin.y g.size.y c.y ≡ true) × (inside_on g.origin.z g.size.z c.z ≡ true)
unfolding inside
inside_on_lem g c e =
    let p = both (inside_on g.origin.x g.size.x c.x) _ e in
    let q = both (inside_on g.origin.y g.size.y c.y) (inside_on g.origin.z g.size.z c.z) p.1 in
    (p.0, q.0, q.1)

-- the cell at distances, and back
ahead : (o : ℤ) (d : ℕ) → (o +ℤ pos d) -ℤ o ≡ pos d
ahead o d = ap (λ (z : ℤ). z -ℤ o) (+ℤ_comm o (pos d)) ∙ +ℤ-neg_ℤ_cancel (pos d) o

pub distance-from : (g : Shape) (d : Point) → distance g (cell_from g d) ≡ d
unfolding distance cell_from
distance-from g d =
    λ i. point_of
    (nat_abs (ahead g.origin.x d.x i)) (nat_abs (ahead g.origin.y d.y i)) (nat_abs (ahead g.origin.z d.z i))

on-from : (o : ℤ) (n d : ℕ) → d < n → inside_on o n (o +ℤ pos d) ≡ true
unfolding inside_on
on-from o n d h = rw (ahead o d) (rw (leb-zero d, lt-ltb d n h))

pub inside-from : (g : Shape) (d : Point) → Within g.size d → inside g (cell_from g d) ≡ true
unfolding inside cell_from
inside-from g d h = rw (on-from _ _ _ h.x, on-from _ _ _ h.y, on-from _ _ _ h.z)

behind : (o c : ℤ) (n : ℕ) → inside_on o n c ≡ true → o +ℤ pos (nat_abs (c -ℤ o)) ≡ c
unfolding inside_on
behind o c n e = +ℤ_comm o _ ∙ ap (λ (z : ℤ). z +ℤ o) (plain (c -ℤ o) (both _ _ e).0) ∙ -ℤ-+ℤ_cancel c o
  where
    plain : (z : ℤ) → le_z (pos 0) z ≡ true → pos (nat_abs z) ≡ z
    plain (pos m) h = refl
    plain (negsuc m) h = absurd (false≢true h)

pub from-distance : (g : Shape) (c : Cell) → inside g c ≡ true → cell_from g (distance g c) ≡ c
unfolding inside cell_from distance
from-distance g c e =
    let p = inside_on_lem g c e in
    λ i. cell_of
    (behind g.origin.x c.x g.size.x p.0 i)
    (behind g.origin.y c.y g.size.y p.1 i)
    (behind g.origin.z c.z g.size.z p.2 i)

-- ---- slots

pub slot-from : (g : Shape) (d : Point) → slot g (cell_from g d) ≡ slot_at (counted g) d
unfolding slot
slot-from g d = ap (slot_at (counted g)) (distance-from g d)

-- distances below the size lie in the store
chunk-below : (n d : ℕ) → d < n → d / 16 < chunks_on n
unfolding chunks_on
chunk-below n d h = omega arith

pub stored : (g : Shape) (d : Point) → opens g ≡ true → Within g.size d → Stored (counted g) d
unfolding counted chunks_in opens
stored g d e h =
    record {
      x = chunk-below _ _ h.x;
      y = chunk-below _ _ h.y;
      z = chunk-below _ _ h.z;
      few = (goods g.origin g.size (counted g) e).few;
    }

pub slot-at-chunk : (k d : Point) → slot_at k d / 4096 ≡ section_at k (over d)
unfolding slot_at within_at rest
slot-at-chunk k d = digits_div (section_at k (over d)) (omega arith)

pub section-lt : (k d : Point) → Stored k d → section_at k (over d) < product k
unfolding section_at over product
section-lt k d r =
    let l : (d.z / 16 * k.y + d.y / 16) * k.x + d.x / 16 < k.z * k.y * k.x = digits_lt (digits_lt r.z r.y) r.x in
    let e : k.z * k.y * k.x ≡ k.x * k.y * k.z = simp (mul_assoc, mul_comm, mul_left_comm) in
    omega arith

pub slot-at-lt : (k d : Point) → Stored k d → slot_at k d < product k * 4096
unfolding slot_at within_at rest
slot-at-lt k d r = digits_lt (section-lt k d r) (omega arith)

-- a cell inside has its section and its slot in range
pub slot-chunk : (g : Shape) (c : Cell) → slot g c / 4096 ≡ chunk_of g c
unfolding slot chunk_of
slot-chunk g c = slot-at-chunk (counted g) (distance g c)

pub chunk-lt : (g : Shape) (c : Cell) → opens g ≡ true → inside g c ≡ true → chunk_of g c < sections g
unfolding chunk_of sections
chunk-lt g c e h = section-lt _ _ (stored g (distance g c) e (inside-within g c h))

pub slot_lt : (g : Shape) (c : Cell) → opens g ≡ true → inside g c ≡ true → slot g c < sections g * 4096
unfolding slot sections
slot_lt g c e h = slot-at-lt _ _ (stored g (distance g c) e (inside-within g c h))

-- ---- two cells have two slots

digits_same : {m : ℕ} (q q' r r' : ℕ) → r < m → r' < m → q * m + r ≡ q' * m + r' → (q ≡ q') × (r ≡ r')
digits_same {m} q q' r r' h h' e = (
  sym (digits_div q h) ∙ ap (λ (n : ℕ). n / m) e ∙ digits_div q' h',
  sym (digits_mod q h) ∙ ap (λ (n : ℕ). n % m) e ∙ digits_mod q' h',
)

digit_same : (a b : ℕ) → a / 16 ≡ b / 16 → a % 16 ≡ b % 16 → a ≡ b
digit_same a b p q = omega arith

pub slot-at_inj : (k d e : Point) → Stored k d → Stored k e → slot_at k d ≡ slot_at k e → d ≡ e
unfolding slot_at section_at within_at over rest
slot-at_inj k d e r t h =
    let p = digits_same {m = 4096} _ _ ((d.z % 16 * 16 + d.y % 16) * 16 + d.x % 16) ((e.z % 16 * 16 + e.y % 16) * 16 + e.x % 16) (omega arith) (omega arith) h in
    let q = digits_same _ _ _ _ r.x t.x p.0 in
    let s = digits_same _ _ _ _ r.y t.y q.0 in
    let u = digits_same {m = 16} _ _ (d.x % 16) (e.x % 16) (omega arith) (omega arith) p.1 in
    let w = digits_same {m = 16} _ _ (d.y % 16) (e.y % 16) (omega arith) (omega arith) u.0 in
    λ i. point_of (digit_same d.x e.x q.1 u.1 i) (digit_same d.y e.y s.1 w.1 i) (digit_same d.z e.z s.0 w.0 i)

pub slot_inj : (g : Shape) (c d : Cell) → opens g ≡ true → inside g c ≡ true → inside g d ≡ true → slot g c ≡ slot g d → c ≡ d
unfolding slot
slot_inj g c d e h t p =
    sym (from-distance g c h)
    ∙ ap (cell_from g)
    (slot-at_inj (counted g) (distance g c) (distance g d) (stored g _ e (inside-within g c h)) (stored g _ e (inside-within g d t)) p)
    ∙ from-distance g d t
