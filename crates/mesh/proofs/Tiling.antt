-- A part as a box of sections: the place and extents of each, its cells and slots, and the slices filled section by section.
use mathlib.Core.Path.{◌≡◌, refl, sym, ap, ◌∙◌, subst}
use mathlib.Core.List.{List}
use Prim.Native.Nat.{ℕ, zero, suc, ◌+◌, ◌-◌, ◌*◌, ◌/◌, ◌%◌, ◌≤◌, ◌<◌, min}
use native.Mathlib.Nat.{add-mul, le-mul_of_pos_right, mul_assoc, mul_comm, mul_left_comm}
use native.Mathlib.Omega.{arith}
use lib.Arith.{digits_lt}
use lib.Bits.{bit_or}
use lib.ListN.{length}
use Rattle.stand.specs.Shape.{Shape, cell_from, chunk_place, chunks_in, chunks_on, corner, counted, max_chunks, point_of, product, section_at, sections}
use Rattle.stand.specs.Sides.{axes_at, first_at, normal_at, second_at}
use Rattle.stand.specs.declared.Axes.{Axes}
use Rattle.stand.specs.declared.Cell.{Cell}
use Rattle.stand.specs.declared.volume.shape.Point.{Point}
use Rattle.stand.proofs.Shape.{Within, sections-few}
use Rattle.stand.proofs.Slots.{place-section}
use Rattle.mesh.specs.Part.{added, cell_in, depth_of, facing, height_of, on_axis, section_part, tiled, turned, width_of}
use Rattle.mesh.specs.Plane.{Filled, Laid}
use Rattle.mesh.specs.Scene.{look_in, open_in, shape_in}
use Rattle.mesh.specs.Step.{SliceFilled, SliceIn, part_in, slice_shown}
use Rattle.mesh.specs.Tiles.{BandFilled, BandIn, Cleared, TileIn, band_shown, part_of, part_shown, side_slots, tile_place}
use Rattle.mesh.specs.Visible.{shown}
use Rattle.mesh.specs.declared.axes.Side.{Side}
use Rattle.mesh.specs.declared.scene.Part.{Part}
use Rattle.mesh.specs.declared.scene.Section.{Section}
use Rattle.mesh.proofs.Facing.{facing-along, turned_so}
use Rattle.mesh.proofs.Laid.{apart, filled_as, filled-below, filled_beside, row_below}
use Rattle.mesh.proofs.Parts.{facing-below, points, section-on}
use Rattle.mesh.proofs.Step.{added-on, opened, room-on}

-- ---- the index of a section by its place

module _ (k p : Point) (h : Within k p) where
  pub section-lt : section_at k p < product k
  unfolding section_at product
  section-lt =
      let e : k.z * k.y * k.x ≡ k.x * k.y * k.z = simp (mul_assoc, mul_comm, mul_left_comm) in
      let l : (p.z * k.y + p.y) * k.x + p.x < k.z * k.y * k.x = digits_lt (digits_lt h.z h.y) h.x in
      omega arith

  pub row_le : p.z * k.y + p.y ≤ (p.z * k.y + p.y) * k.x
  row_le = let x = h.x in le-mul_of_pos_right {m = k.x} (p.z * k.y + p.y) (omega arith)

-- the sums of the index at place q fit
pub record Sums (k q : Point) : Type 0 where
  pub x : q.x < max_chunks
  pub y : q.y < max_chunks
  pub z : q.z < max_chunks
  pub row : q.z * k.y + q.y < max_chunks
  pub all : (q.z * k.y + q.y) * k.x + q.x < max_chunks

module _ (p : Part) (s d a b : ℕ) {t : Point} (e : t ≡ facing s d a b) where
  pub tile_sums : TileIn p s d a b → Sums p.chunks (point_of (p.place.x + t.x) (p.place.y + t.y) (p.place.z + t.z))
  unfolding tile_place added section_at
  tile_sums i =
      let w : Within p.chunks (tile_place p s d a b) = record { x = i.x; y = i.y; z = i.z } in
      let l = section-lt p.chunks (tile_place p s d a b) w in
      let r = row_le p.chunks (tile_place p s d a b) w in
      let y = i.y in
      let z = le-mul_of_pos_right {m = p.chunks.y} (tile_place p s d a b).z (omega arith) in
      let h : Sums p.chunks (tile_place p s d a b) =
      record {
        x = omega (arith, l, i.few);
        y = omega (arith, l, r, i.few);
        z = omega (arith, l, r, z, i.few);
        row = omega (arith, l, r, i.few);
        all = omega (arith, l, i.few);
      } in
      subst (λ (t : Point). Sums p.chunks (point_of (p.place.x + t.x) (p.place.y + t.y) (p.place.z + t.z))) (sym e) h

  pub tile_index : ((p.place.z + t.z) * p.chunks.y + (p.place.y + t.y)) * p.chunks.x + (p.place.x + t.x) ≡ section_at p.chunks (tile_place p s d a b)
  unfolding tile_place added section_at
  tile_index = ap (λ (t : Point). ((p.place.z + t.z) * p.chunks.y + (p.place.y + t.y)) * p.chunks.x + (p.place.x + t.x)) e

-- ---- along one axis

tiled-on : (g : Shape) (p n : Point) (x : ℕ) → on_axis x (tiled g p n).count ≡ min (on_axis x n * 16) (on_axis x g.size - on_axis x p * 16)
unfolding tiled
tiled-on g p n zero = refl
tiled-on g p n (suc zero) = refl
tiled-on g p n (suc (suc x)) = refl

module _ (p : Part) where
  -- each section of a part starts below its cells, and all have them
  part-some : (x i : ℕ) → i < on_axis x p.across → i * 16 < on_axis x (part_of p).count
  unfolding tiled counted chunks_in chunks_on
  part-some zero i h = omega (arith, p.lies.x)
  part-some (suc zero) i h = omega (arith, p.lies.y)
  part-some (suc (suc x)) i h = omega (arith, p.lies.z)

  part-all : (x : ℕ) → on_axis x (part_of p).count ≤ on_axis x p.across * 16
  part-all x = omega (arith, tiled-on (shape_in p.scene) p.place p.across x)

  -- so it has a cell
  pub part_some : (x : ℕ) → 1 ≤ on_axis x (part_of p).count
  part_some x = omega (arith, part-some x 0 (some x))
    where
      some : (x : ℕ) → 0 < on_axis x p.across
      some zero = p.lies.some_x
      some (suc zero) = p.lies.some_y
      some (suc (suc x)) = p.lies.some_z

-- ---- section j of a part: at d, a and b along the axes of side s

module _ (p : Part) (s : ℕ) (hs : s < 6) where
  abbrev g : Shape
  g = shape_in p.scene

  pub deep_lt : (k : ℕ) → k < depth_of (part_of p) s → k / 16 < on_axis (normal_at s) p.across
  unfolding depth_of
  deep_lt k h = omega (arith, part-all p (normal_at s))

  module _ (d a b : ℕ) (hd : d < on_axis (normal_at s) p.across) (ha : a < on_axis (first_at s) p.across) (hb : b < on_axis (second_at s) p.across) where
    tile_within : Within (counted g) (tile_place p s d a b)
    unfolding tile_place added
    tile_within =
        let f = facing-below s hs d a b p.across hd ha hb in
        record { x = omega (arith, f.x, p.lies.x); y = omega (arith, f.y, p.lies.y); z = omega (arith, f.z, p.lies.z) }

    pub tile_in : TileIn p s d a b
    unfolding sections
    tile_in =
        let w = subst (λ (k : Point). Within k (tile_place p s d a b)) (sym p.lies.chunks) tile_within in
        record { few = rw p.lies.chunks (sections-few g (opened p.scene)); x = w.x; y = w.y; z = w.z }

    module _ (j : ℕ) (e : j ≡ section_at p.chunks (tile_place p s d a b)) where
      tile_is : j ≡ section_at (counted g) (tile_place p s d a b)
      tile_is = e ∙ ap (λ (k : Point). section_at k (tile_place p s d a b)) p.lies.chunks

      pub tile_lt : j < sections g
      unfolding sections
      tile_lt = omega (arith, tile_is, section-lt (counted g) (tile_place p s d a b) tile_within)

      tile_place_lem : chunk_place (counted g) j ≡ tile_place p s d a b
      tile_place_lem = let w = tile_within in ap (chunk_place (counted g)) tile_is ∙ place-section (counted g) (tile_place p s d a b) w.x w.y

      tile_on : (x i : ℕ) → on_axis x (facing s d a b) ≡ i → i < on_axis x p.across → on_axis x (section_part g j).count ≡ min 16 (on_axis x (part_of p).count - i * 16)
      unfolding tile_place
      tile_on x i f h =
          let c = section-on g j tile_lt x in
          let t = tiled-on g p.place p.across x in
          let w = ap (on_axis x) tile_place_lem ∙ added-on x p.place (facing s d a b) in
          omega (arith, c.is, t, w, f)

      pub tile_deep : depth_of (section_part g j) s ≡ min 16 (depth_of (part_of p) s - d * 16)
      unfolding depth_of
      tile_deep = tile_on (normal_at s) d (facing-along s hs d a b).normal hd

      pub tile_wide : width_of (section_part g j) s ≡ min 16 (width_of (part_of p) s - a * 16)
      unfolding width_of
      tile_wide = tile_on (first_at s) a (facing-along s hs d a b).first ha

      pub tile_high : height_of (section_part g j) s ≡ min 16 (height_of (part_of p) s - b * 16)
      unfolding height_of
      tile_high = tile_on (second_at s) b (facing-along s hs d a b).second hb

      -- its cells are cells of the part
      pub tile_cell : (k : ℕ) → d ≡ k / 16 → (u v : ℕ) → cell_in g (section_part g j) s (k % 16) u v ≡ cell_in g (part_of p) s k (a * 16 + u) (b * 16 + v)
      unfolding cell_in section_part tiled corner tile_place added facing
      tile_cell k f u v =
          let w = tile_place_lem in
          ap (cell_from g) (points (on 0 p.place.x (ap (λ (p : Point). p.x) w)) (on 1 p.place.y (ap (λ (p : Point). p.y) w)) (on 2 p.place.z (ap (λ (p : Point). p.z) w)))
        where
          on : (x o : ℕ) {c : ℕ} → c ≡ o + turned x s d a b → c * 16 + turned x s (k % 16) u v ≡ o * 16 + turned x s k (a * 16 + u) (b * 16 + v)
          on x o w =
              let t : turned x s k (a * 16 + u) (b * 16 + v) ≡ turned x s d a b * 16 + turned x s (k % 16) u v =
              turned_so (λ m i r. m ≡ i * 16 + r) x s (omega arith) refl refl in
              omega arith

-- ---- a slice filled, section by section

module _ (p : Part) (s : ℕ) where
  abbrev shape : Shape
  shape = shape_in p.scene

  abbrev wide : ℕ
  wide = width_of (part_of p) s

  abbrev high : ℕ
  high = height_of (part_of p) s

  -- band b, of which the sections before a are laid
  abbrev pub BandTo : ℕ → ℕ → ℕ → List ℕ → List ℕ → ℕ → Type 0
  BandTo k b a m m' r = Filled m m' r (b * 16 * wide) wide (min (a * 16) wide) (min 16 (high - b * 16)) (band_shown p s k b)

  -- a slice, of which the bands before b are laid
  abbrev pub PartTo : ℕ → ℕ → List ℕ → List ℕ → ℕ → Type 0
  PartTo k b m m' r = Filled m m' r 0 wide wide (min (b * 16) high) (part_shown p s k)

  pub wide-all : (a : ℕ) → on_axis (first_at s) p.across ≤ a → min (a * 16) wide ≡ wide
  unfolding width_of
  wide-all a h = omega (arith, part-all p (first_at s))

  pub high-all : (b : ℕ) → on_axis (second_at s) p.across ≤ b → min (b * 16) high ≡ high
  unfolding height_of
  high-all b h = omega (arith, part-all p (second_at s))

  pub wide-some : {a : ℕ} → a < on_axis (first_at s) p.across → a * 16 < wide
  unfolding width_of
  wide-some {a} h = part-some p (first_at s) a h

  pub high-some : {b : ℕ} → b < on_axis (second_at s) p.across → b * 16 < high
  unfolding height_of
  high-some {b} h = part-some p (second_at s) b h

  module _ {m₀ : List ℕ} {k b : ℕ} (hs : s < 6) (z : BandIn m₀ p s k b) where
    pub band_small : b * 16 < 4294967296
    unfolding height_of
    band_small = omega (arith, high-some z.band, tiled-on shape p.place p.across (second_at s), room-on shape (opened p.scene) p.lies.ranged (second_at s))

    pub band-room : (w : ℕ) → w ≡ wide → b * 16 * w + w ≤ length m₀
    band-room w e = rw e (omega (arith, z.room, row_below wide (b * 16) high (high-some z.band)))

    module _ (a : ℕ) (ha : a < on_axis (first_at s) p.across) where
      deep : k / 16 < on_axis (normal_at s) p.across
      deep = deep_lt p s hs k z.slice

      pub band_tile : TileIn p s (k / 16) a b
      band_tile = tile_in p s hs (k / 16) a b deep ha z.band

      pub chunk-lt : {j : ℕ} → j ≡ section_at p.chunks (tile_place p s (k / 16) a b) → j < sections shape
      chunk-lt {j} e = tile_lt p s hs (k / 16) a b deep ha z.band j e

      -- the section laid next
      module _ (c : Section) (at : c.scene ≡ p.scene) (e : c.chunk ≡ section_at p.chunks (tile_place p s (k / 16) a b)) where
        deep_is : depth_of (part_in c) s ≡ min 16 (depth_of (part_of p) s - k / 16 * 16)
        deep_is = rw at (tile_deep p s hs (k / 16) a b deep ha z.band c.chunk e)

        wide_is : width_of (part_in c) s ≡ min 16 (wide - a * 16)
        wide_is = rw at (tile_wide p s hs (k / 16) a b deep ha z.band c.chunk e)

        high_is : height_of (part_in c) s ≡ min 16 (high - b * 16)
        high_is = rw at (tile_high p s hs (k / 16) a b deep ha z.band c.chunk e)

        next-is : (u v : ℕ) → slice_shown c s (k % 16) u v ≡ band_shown p s k b (a * 16 + u) v
        next-is u v =
            rw at
            (ap (λ (d : Cell). shown (open_in p.scene) shape (look_in p.scene) s d) (tile_cell p s hs (k / 16) a b deep ha z.band c.chunk e k refl u v))

        pub slice_in : {m : List ℕ} {f : ℕ → ℕ → ℕ} → Laid m₀ m (b * 16 * wide) wide (min (a * 16) wide) (min 16 (high - b * 16)) f
            → (w : ℕ) → w ≡ wide → SliceIn m c s (k % 16) (b * 16 * w + a * 16) w
        slice_in {m} l w ew =
            subst (λ (w : ℕ). SliceIn m c s (k % 16) (b * 16 * w + a * 16) w) (sym ew)
            (record {
              slice = omega (arith, z.slice, deep_is);
              wide = omega (arith, wide_is);
              rows = λ v h. omega (arith, in_row v h, left, wide_is, l.same, z.room);
              zero = λ u v hu hv.
                  l.kept (b * 16 * wide + a * 16 + v * wide + u)
                  (λ u' v' hu' hv' o. apart (b * 16 * wide) wide (a * 16) (min 16 (wide - a * 16)) u' v' u v (omega (arith, left)) (omega arith) (omega (arith, wide_is)) (sym o))
                  ∙ z.zero (b * 16 * wide + a * 16 + v * wide + u) (omega arith) (omega (arith, in_row v hv, wide_is, left));
            })
          where
            left : a * 16 < wide
            left = wide-some ha

            in_row : (v : ℕ) → v < height_of (part_in c) s → b * 16 * wide + v * wide + wide ≤ high * wide
            in_row v h = omega (arith, add-mul (b * 16) v wide, row_below wide (b * 16 + v) high (omega (arith, high_is)))

        pub band_more : {m m' : List ℕ} {r t : ℕ} → BandTo k b a m₀ m r → (w : ℕ) → w ≡ wide
            → SliceFilled c s (k % 16) (b * 16 * w + a * 16) w m m' t
            → BandTo k b (a + 1) m₀ m' (bit_or r t)
        band_more {m} {m'} {r} {t} l w ew x =
            let left = wide-some ha in
            let n : min (a * 16) wide ≡ a * 16 = omega arith in
            let next : a * 16 + min 16 (wide - a * 16) ≡ min ((a + 1) * 16) wide = omega arith in
            let f : ℕ → ℕ → ℕ = band_shown p s k b in
            let one : Filled m m' t (b * 16 * wide + a * 16) wide (min 16 (wide - a * 16)) (min 16 (high - b * 16)) (slice_shown c s (k % 16)) =
            subst (λ (w : ℕ). Filled m m' t (b * 16 * w + a * 16) w (min 16 (wide - a * 16)) (min 16 (high - b * 16)) (slice_shown c s (k % 16))) ew
            (subst (λ (n : ℕ). Filled m m' t (b * 16 * w + a * 16) w n (min 16 (high - b * 16)) (slice_shown c s (k % 16))) wide_is
            (subst (λ (n : ℕ). Filled m m' t (b * 16 * w + a * 16) w (width_of (part_in c) s) n (slice_shown c s (k % 16))) high_is x)) in
            subst (λ (n : ℕ). Filled m₀ m' (bit_or r t) (b * 16 * wide) wide n (min 16 (high - b * 16)) f) next
            (filled_beside (omega arith) (subst (λ (n : ℕ). Filled m₀ m r (b * 16 * wide) wide n (min 16 (high - b * 16)) f) n l)
            (filled_as (λ u v _ _. next-is u v) one))

  module _ (k b : ℕ) {m₀ : List ℕ} (z : Cleared (side_slots p s) m₀) (hb : b < on_axis (second_at s) p.across) where
    pub band_in : k < depth_of (part_of p) s → {m : List ℕ} {f : ℕ → ℕ → ℕ} → Laid m₀ m 0 wide wide (min (b * 16) high) f → BandIn m p s k b
    band_in h {m} l =
        record {
          slice = h;
          band = hb;
          room = omega (arith, z.room, l.same);
          zero = λ q lo hi. l.kept q (λ u v hu hv o. omega (arith, row_below wide v (b * 16) (omega arith))) ∙ z.zero q hi;
        }

    pub part_more : {m m' : List ℕ} {r t : ℕ} → PartTo k b m₀ m r → BandFilled p s k b m m' t → PartTo k (b + 1) m₀ m' (bit_or r t)
    part_more {m} {m'} {r} {t} l x =
        let left = high-some hb in
        let n : min (b * 16) high ≡ b * 16 = omega arith in
        let next : b * 16 + min 16 (high - b * 16) ≡ min ((b + 1) * 16) high = omega arith in
        let at : b * 16 * wide ≡ 0 + b * 16 * wide = omega arith in
        let f : ℕ → ℕ → ℕ = part_shown p s k in
        subst (λ (n : ℕ). Filled m₀ m' (bit_or r t) 0 wide wide n f) next
        (filled-below (omega arith) (subst (λ (n : ℕ). Filled m₀ m r 0 wide wide n f) n l)
        (subst (λ (i : ℕ). Filled m m' t i wide wide (min 16 (high - b * 16)) (band_shown p s k b)) at x))

-- ---- what the code reads off a point by a side's axes

module _ (t : Side) {r : ℕ} (x : Point) where
  pub first-is : r ≡ on_axis t.axes.first x → r ≡ on_axis (first_at t.number) x
  unfolding axes_at
  first-is h = h ∙ ap (λ (a : Axes). on_axis a.first x) t.read

  pub second_is : r ≡ on_axis t.axes.second x → r ≡ on_axis (second_at t.number) x
  unfolding axes_at
  second_is h = h ∙ ap (λ (a : Axes). on_axis a.second x) t.read
