-- A header's test, its counts and a cell's place, by the code's steps.
use Rattle.std.proofs.Common.{◌≡◌, ℕ, zero, suc, ◌+◌, ◌-◌, ◌*◌, ◌/◌, ◌%◌, ◌<◌, ◌≤◌, Bool, true, false, cond, ◌&&◌, Option, Some, None, ltb, leb, ℤ, pos, negsuc, ◌-ℤ◌, nat_abs, sym, refl, ap, ◌∙◌, subst, ⊎_elim, le_trans, mul_assoc, mul_comm, eq-zero-or-pos, mul-zero, zero-mul, div-le_self, le-mul_of_pos_right, mul_left_comm, arith, w32, SFits, leb-false, leb-true}
use native.Mathlib.Nat.{mod-le}
use lib.Arith.{digits_lt}
use Rattle.arith.specs.Level.{count_of, level_of}
use Rattle.stand.specs.Shape.{Below, Ranged, Shape, Sized, Stored, along_at, axis_at, axis_good, chunks_in, counted, counts_of, distance, good, inside, inside_on, levels_of, max_chunks, opens, place_of, point_of, product, sections, shape_of, slot, slot_at, reach_of, spot_of, well_formed}
use Rattle.stand.specs.declared.Cell.{Cell}
use Rattle.stand.specs.declared.volume.Extent.{Extent}
use Rattle.stand.specs.declared.volume.Volume.{Volume}
use Rattle.stand.specs.declared.volume.shape.Point.{Point}
use Rattle.stand.specs.declared.volume.shape.Reach.{Reach}
use Rattle.stand.proofs.Levels.{axis_law, on-distance, on-high, on-low}
use Rattle.stand.proofs.Shape.{chunks-some, formed-counts, formed-opens, goods, inside-within, sections-few, sections-some, slot-chunk, slot_lt, stored}

-- ---- a header, by levels

module _ (v : Volume) {s : Reach} {k : Point} (r : Ranged v.origin) (e : s ≡ reach_of v) (ek : k ≡ counts_of v.chunks) where
  on : (a : ℤ) {b m l : ℕ} (s t : ℤ) → SFits w32 a → b ≡ level_of a → m ≡ count_of s → l ≡ count_of t → axis_good a (count_of s) (count_of t) ≡ axis_at b m l
  on a s t f p q u = axis_law a (count_of s) (count_of t) f ∙ (λ i. axis_at (sym p i) (sym q i) (sym u i))

  pub formed_law : well_formed v ≡ (axis_at s.x.low s.x.count k.x && (axis_at s.y.low s.y.count k.y && (axis_at s.z.low s.z.count k.z && leb (product k) max_chunks)))
  unfolding well_formed good
  formed_law =
      let x = on v.origin.x v.size.x v.chunks.x r.x (λ i. (e i).x.low) (λ i. (e i).x.count) (λ i. (ek i).x) in
      let y = on v.origin.y v.size.y v.chunks.y r.y (λ i. (e i).y.low) (λ i. (e i).y.count) (λ i. (ek i).y) in
      let z = on v.origin.z v.size.z v.chunks.z r.z (λ i. (e i).z.low) (λ i. (e i).z.count) (λ i. (ek i).z) in
      λ i. x i && (y i && (z i && leb (product (sym ek i)) max_chunks))

-- ---- counts of a header that passes

pub record Counted (v : Volume) (k : Point) : Type 0 where
  pub two : k.x * k.y ≤ max_chunks
  pub three : k.x * k.y * k.z ≤ max_chunks
  pub some : 1 ≤ k.x * k.y * k.z
  pub total : k.x * k.y * k.z ≡ sections (shape_of v)

pub counted_law : (v : Volume) {k : Point} → well_formed v ≡ true → k ≡ counts_of v.chunks → Counted v k
unfolding sections product
counted_law v {k} ok e =
    let p = formed-opens v ok in
    let t : k.x * k.y * k.z ≡ sections (shape_of v) = ap product (e ∙ formed-counts v ok) in
    let few = sections-few (shape_of v) p in
    let s = sections-some (shape_of v) p in
    record {
      two = le_trans (le-mul_of_pos_right (k.x * k.y) (factor (k.x * k.y) k.z (omega arith))) (omega arith);
      three = omega arith;
      some = omega arith;
      total = t;
    }
  where
    factor : (a d : ℕ) → 1 ≤ a * d → 1 ≤ d
    factor a zero h = absurd (omega (arith, mul-zero a))
    factor a (suc d) h = omega arith

-- sizes and chunk counts of a header that passes
module _ (v : Volume) (ok : well_formed v ≡ true) where
  pub reach_some : {s : Reach} → s ≡ reach_of v → (1 ≤ s.x.count) × (1 ≤ s.y.count) × (1 ≤ s.z.count)
  unfolding well_formed
  reach_some e =
      let g = goods _ _ _ ok in
      rw e (g.x.some, g.y.some, g.z.some)

  pub sided : {k : Point} → k ≡ counts_of v.chunks → Below 2147483648 k → Sized k
  unfolding counted chunks_in shape_of well_formed
  sided e b =
      let g = goods _ _ _ ok in
      let p = e ∙ formed-counts v ok in
      record {
        low_x = omega (arith, ap (λ (q : Point). q.x) p, chunks-some _ g.x.some);
        low-y = omega (arith, ap (λ (q : Point). q.y) p, chunks-some _ g.y.some);
        low-z = omega (arith, ap (λ (q : Point). q.z) p, chunks-some _ g.z.some);
        x = b.x;
        y = b.y;
        z = b.z;
      }

count_lt : (z : ℤ) → SFits w32 z → count_of z < 2147483648
count_lt (pos n) f = f.sfits
count_lt (negsuc n) f = omega arith

-- distances below the sizes of a header
pub size_below : (e : Extent) {d : Point} → SFits w32 e.x → SFits w32 e.y → SFits w32 e.z
    → (d.x < count_of e.x) × (d.y < count_of e.y) × (d.z < count_of e.z) → Below 2147483648 d
size_below e fx fy fz h =
    record {
      x = omega (arith, count_lt e.x fx, h.0);
      y = omega (arith, count_lt e.y fy, h.1);
      z = omega (arith, count_lt e.z fz, h.2);
    }

-- ---- a distance

-- the distances along three axes, if there are three
abbrev pub three : Option ℕ → Option ℕ → Option ℕ → Option Point
three None y z = None
three (Some x) None z = None
three (Some x) (Some y) None = None
three (Some x) (Some y) (Some z) = Some (point_of x y z)

along_law : (o : ℤ) (n : ℕ) (c : ℤ) → SFits w32 o → SFits w32 c → along_at (level_of o) n (level_of c) ≡ cond (inside_on o n c) (Some (nat_abs (c -ℤ o))) None
unfolding along_at
along_law o n c fo fc = by (leb (level_of o) (level_of c)) refl
  where
    by : (t : Bool) → leb (level_of o) (level_of c) ≡ t
        → cond (t && ltb (level_of c - level_of o) n) (Some (level_of c - level_of o)) None ≡ cond (inside_on o n c) (Some (nat_abs (c -ℤ o))) None
    by false p = rw (on-low o n c fo fc (leb-false _ _ p))
    by true p =
        let h = leb-true (level_of o) (level_of c) p in
        rw (on-high o n c fo fc h, on-distance o n c fo fc h)

module _ (v : Volume) (c : Cell) {s : Reach} {p : Point} (fo : Ranged v.origin) (fc : Ranged c) (e : s ≡ reach_of v) (ep : p ≡ levels_of c) where
  pub spot_law : three (along_at s.x.low s.x.count p.x) (along_at s.y.low s.y.count p.y) (along_at s.z.low s.z.count p.z) ≡ spot_of (shape_of v) c
  unfolding spot_of inside distance shape_of
  spot_law =
      (λ i. three (along_at (e i).x.low (e i).x.count (ep i).x) (along_at (e i).y.low (e i).y.count (ep i).y) (along_at (e i).z.low (e i).z.count (ep i).z))
      ∙ (λ i. three
      (along_law v.origin.x (count_of v.size.x) c.x fo.x fc.x i)
      (along_law v.origin.y (count_of v.size.y) c.y fo.y fc.y i)
      (along_law v.origin.z (count_of v.size.z) c.z fo.z fc.z i))
      ∙ by (inside_on v.origin.x (count_of v.size.x) c.x) (inside_on v.origin.y (count_of v.size.y) c.y) (inside_on v.origin.z (count_of v.size.z) c.z) _ _ _
    where
      by : (s t u : Bool) (x y z : ℕ) → three (cond s (Some x) None) (cond t (Some y) None) (cond u (Some z) None) ≡ cond (s && (t && u)) (Some (point_of x y z)) None
      by false t u x y z = refl
      by true false u x y z = refl
      by true true false x y z = refl
      by true true true x y z = refl

-- ---- a place

pub spot_none : (g : Shape) (c : Cell) → spot_of g c ≡ None → inside g c ≡ false
unfolding spot_of
spot_none g c e = by (inside g c) refl
  where
    by : (t : Bool) → inside g c ≡ t → t ≡ false
    by true p = absurd (let z : ◌≡◌ {A = ℕ} 0 1 = cc in omega arith)
    by false p = refl

pub spot_some : (g : Shape) (c : Cell) (d : Point) → spot_of g c ≡ Some d → (inside g c ≡ true) × (distance g c ≡ d)
unfolding spot_of
spot_some g c d e = by (inside g c) refl
  where
    by : (t : Bool) → inside g c ≡ t → (t ≡ true) × (distance g c ≡ d)
    by true p = (refl, cc)
    by false p = absurd (let z : ◌≡◌ {A = ℕ} 0 1 = cc in omega arith)

module _ (g : Shape) (c : Cell) where
  pub place_none : spot_of g c ≡ None → None ≡ place_of g c
  unfolding place_of
  place_none e = rw (spot_none g c e)

  module _ (d : Point) (e : spot_of g c ≡ Some d) where
    pub place-stored : opens g ≡ true → Stored (counted g) d
    place-stored o =
        let p = spot_some g c d e in
        subst (Stored (counted g)) p.1 (stored g (distance g c) o (inside-within g c p.0))

    pub place-some : {r : ℕ} → r ≡ slot_at (counted g) d → Some r ≡ place_of g c
    unfolding place_of slot
    place-some q =
        let p = spot_some g c d e in
        ap Some q ∙ rw (p.0, p.1)

-- where a cell that is inside is stored, and which section that is
pub ruleset places = (slot_lt, slot-chunk, formed-opens)

-- ---- bounds of the code's sums

module _ (k d : Point) (r : Stored k d) where
  pub row_lt : d.z / 16 * k.y + d.y / 16 < k.z * k.y
  row_lt = digits_lt r.z r.y

  pub chunk_small : (d.z / 16 * k.y + d.y / 16) * k.x + d.x / 16 < max_chunks
  unfolding product
  chunk_small =
      let l : (d.z / 16 * k.y + d.y / 16) * k.x + d.x / 16 < k.z * k.y * k.x = digits_lt row_lt r.x in
      let e : k.z * k.y * k.x ≡ k.x * k.y * k.z = simp (mul_assoc, mul_comm, mul_left_comm) in
      let few = r.few in
      omega arith

  pub row_small : d.z / 16 * k.y + d.y / 16 < max_chunks
  row_small =
      let x = r.x in
      let l = le-mul_of_pos_right {m = k.x} (d.z / 16 * k.y + d.y / 16) (omega arith) in
      let s = chunk_small in
      omega arith

-- a chunk's corner
module _ (k : Point) (i : ℕ) (h : i < product k) where
  pub some-x : 0 < k.x
  unfolding product
  some-x = ⊎_elim (λ e. absurd (none e)) (λ p. p) (eq-zero-or-pos k.x)
    where
      none : k.x ≡ 0 → ⊥
      none e =
          let z : k.x * k.y * k.z ≡ 0 = rw (e, zero-mul k.y, zero-mul k.z) in
          omega arith

  pub some-y : 0 < k.y
  unfolding product
  some-y = ⊎_elim (λ e. absurd (none e)) (λ p. p) (eq-zero-or-pos k.y)
    where
      none : k.y ≡ 0 → ⊥
      none e =
          let z : k.x * k.y * k.z ≡ 0 = rw (e, mul-zero k.x, zero-mul k.z) in
          omega arith

pub corner-x : (k : Point) (i : ℕ) → i % k.x ≤ i
corner-x k i = mod-le i k.x

pub corner-y : (k : Point) (i : ℕ) → i / k.x % k.y ≤ i
corner-y k i = le_trans (mod-le (i / k.x) k.y) (div-le_self i k.x)

pub corner-z : (k : Point) (i : ℕ) → i / k.x / k.y ≤ i
corner-z k i = le_trans (div-le_self (i / k.x) k.y) (div-le_self i k.x)
