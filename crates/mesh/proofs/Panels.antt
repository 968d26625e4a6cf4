-- Panels of a slice and of a part: each visible face lies in exactly one.
use mathlib.Core.Path.{◌≡◌, refl, sym, ap, ◌∙◌, subst}
use mathlib.Core.Bool.{Bool, true, false, cond}
use mathlib.Core.List.{List, [], ◌∷◌, ◌++◌, map}
use Prim.Native.Nat.{ℕ, zero, suc, ◌+◌, ◌*◌, ◌-◌, ◌/◌, ◌%◌, ◌≤◌, ◌<◌}
use native.Mathlib.Nat.{add-zero, zero-add, add_assoc, le_of_suc-le-suc, not-suc-le-zero, one-mul, le_refl}
use native.Mathlib.Omega.{arith}
use borrow.Author.Tests.{eqb-true, eqb-false, eq-eqb, le-leb, ltb-false, ltb-true}
use lib.Arith.{digits_div, digits_lt, digits_mod}
use lib.Dec.{eqb, leb, ltb}
use lib.ListN.{get_or, length, length-append, length-map, get_or-eq_default}
use Rattle.stand.specs.Refusal.{answer, first, gives}
use Rattle.stand.specs.Shape.{Shape, cell_from, counts_of, distance, inside, product}
use Rattle.stand.specs.Sides.{first_at, normal_at, second_at, side_number}
use Rattle.stand.specs.Storage.{extent_of}
use Rattle.stand.specs.declared.Cell.{Cell}
use Rattle.stand.specs.declared.Face.{Face}
use Rattle.stand.specs.declared.Face.TheVariants.{East, West, Top, Bottom, North, South}
use Rattle.stand.specs.declared.volume.Extent.{Extent}
use Rattle.stand.specs.declared.volume.shape.Point.{Point}
use Rattle.stand.specs.declared.volume.shape.Region.{Region}
use Rattle.stand.proofs.Shape.{Within, from-distance, inside-from, inside-within}
use Rattle.stand.proofs.Sides.{six}
use Rattle.stand.proofs.Tests.{both}
use Rattle.mesh.specs.Cover.{Each, cover_count, covers, face_sum, faces_in, faces_on, seen, sum_to}
use Rattle.mesh.specs.Merge.{Box, Member, cut_to, limits, size}
use Rattle.mesh.specs.Panels.{boxes_of, face_of, nokey, panels_to, part_panels, quad_of, side_panels, slice_panels, steps_of}
use Rattle.mesh.specs.Part.{added, cell_in, depth_of, facing, height_of, on_axis, slice_mask, slot_shown, turned, width_of}
use Rattle.mesh.specs.Quad.{merged_call, positive}
use Rattle.mesh.specs.Visible.{shown}
use Rattle.mesh.specs.declared.Quad.{Quad}
use Rattle.mesh.proofs.Facing.{added_assoc, cell_inj, facing-along, facing-back, facing-product, facing-sum, facing-within, from-added, on_axis_lem, part-size, turned_so}
use Rattle.mesh.proofs.Merged.{Held, each_append, nth, sizes}
use Rattle.mesh.proofs.Slices.{Boxed, Inner, boxes_rect, each_both, each_map, each_nth, each_so, get_or-table, inner_member, length-table, member_inner, nonzeros_none, nonzeros_table, nth_each, rect_size, seen_none, seen_one, seen-sum, slice_parted, sum_const, sum-most, sum-none, sum_only, sum_same}

-- ---- the faces of one panel

-- `merged` answers a panel's faces where extents and product are in its bounds
pub merged_gives : (e : Extent) → positive e ≡ true → product (counts_of e) ≤ 2147483647 → merged_call e ≡ gives (product (counts_of e))
unfolding merged_call answer first
merged_gives e p h = rw (p, le-leb (product (counts_of e)) 2147483647 h)

pub side_face : (s : ℕ) → s < 6 → side_number (face_of s) ≡ s
side_face s l = six (λ s. side_number (face_of s) ≡ s) refl refl refl refl refl refl s l

-- the cell lies j along first and i along second from slot (u, v) of slice k, within run and rows
pub record Reached (g : Shape) (r : Region) (s k u v run rows : ℕ) (c : Cell) : Type 0 where
  pub j : ℕ
  pub i : ℕ
  pub in_run : j < run
  pub in_rows : i < rows
  pub cell : c ≡ cell_in g r s k (u + j) (v + i)

module _ (g : Shape) (r : Region) (s : ℕ) (l : s < 6) (k u v run rows : ℕ) where
  -- a panel's cells, as a stand of their own
  unfoldable own : Shape
  own = record { origin = cell_in g r s k u v; size = facing s 1 run rows }

  own-cell : (j i : ℕ) → cell_from own (facing s 0 j i) ≡ cell_in g r s k (u + j) (v + i)
  unfolding own cell_in
  own-cell j i =
      from-added g (added r.low (facing s k u v)) (facing s 0 j i) (facing s 1 run rows)
      ∙ ap (cell_from g)
      (added_assoc r.low (facing s k u v) (facing s 0 j i)
      ∙ ap (added r.low) (facing-sum s k u v 0 j i ∙ ap (λ (n : ℕ). facing s n (u + j) (v + i)) (add-zero k)))

  own-reached : (c : Cell) → inside own c ≡ true → Reached g r s k u v run rows c
  unfolding own
  own-reached c e =
      let d = distance own c in
      let h = on_axis_lem (facing s 1 run rows) d (inside-within own c e) in
      let a = facing-along s l 1 run rows in
      let j = on_axis (first_at s) d in
      let i = on_axis (second_at s) d in
      let z : on_axis (normal_at s) d ≡ 0 = omega (arith, h (normal_at s), a.normal) in
      let f : facing s 0 j i ≡ d = ap (λ (n : ℕ). facing s n j i) (sym z) ∙ facing-back s l d in
      record {
        j = j;
        i = i;
        in_run = omega (arith, h (first_at s), a.first);
        in_rows = omega (arith, h (second_at s), a.second);
        cell = sym (from-distance own c e) ∙ ap (cell_from own) (sym f) ∙ own-cell j i;
      }

  own-inside : (j i : ℕ) → j < run → i < rows → inside own (cell_in g r s k (u + j) (v + i)) ≡ true
  unfolding own
  own-inside j i lj li = rw (← own-cell j i) (inside-from own (facing s 0 j i) (facing-within s (omega arith) lj li))

-- the panel of a box has a face only on its own side, at a cell of its own
module _ (g : Shape) (r : Region) (s : ℕ) (l : s < 6) (k : ℕ) (b : Box) where
  pub quad-side : (f : Face) (c : Cell) → covers (quad_of g r s k b) f c ≡ true → s ≡ side_number f
  unfolding covers quad_of
  quad-side f c e = sym (side_face s l) ∙ eqb-true (side_number (face_of s)) (side_number f) (both _ _ e).0

  pub quad-reached : (f : Face) (c : Cell) → covers (quad_of g r s k b) f c ≡ true
      → Reached g r s k (b.start % width_of r s) (b.start / width_of r s) (steps_of b.dirs 1) (steps_of b.dirs 0) c
  unfolding covers quad_of own
  quad-reached f c e =
      own-reached g r s l k (b.start % width_of r s) (b.start / width_of r s) (steps_of b.dirs 1) (steps_of b.dirs 0) c
      (both (eqb (side_number (face_of s)) (side_number f)) _ e).1

  pub quad-covers : (j i : ℕ) → j < steps_of b.dirs 1 → i < steps_of b.dirs 0
      → covers (quad_of g r s k b) (face_of s) (cell_in g r s k (b.start % width_of r s + j) (b.start / width_of r s + i)) ≡ true
  unfolding covers quad_of own
  quad-covers j i lj li =
      rw (eq-eqb (side_number (face_of s)) (side_number (face_of s)) refl)
      (own-inside g r s l k (b.start % width_of r s) (b.start / width_of r s) (steps_of b.dirs 1) (steps_of b.dirs 0) j i lj li)

-- ---- how many panels of a list have a face

pub count-zero : (f : Face) (c : Cell) (qs : List Quad) → Each (λ q. covers q f c ≡ true → ⊥) qs → cover_count qs f c ≡ 0
unfolding cover_count
count-zero f c [] h = refl
count-zero f c (q ∷ qs) h = go (covers q f c) refl (count-zero f c qs h.1)
  where
    go : (y : Bool) → covers q f c ≡ y → cover_count qs f c ≡ 0 → cond y 1 0 + cover_count qs f c ≡ 0
    go true e z = absurd (h.0 e)
    go false e z = omega arith

-- what each panel that has the face shows, if there is one
pub count-some : (P : Type 0) (f : Face) (c : Cell) (qs : List Quad) → Each (λ q. covers q f c ≡ true → P) qs → (cover_count qs f c ≡ 0 → ⊥) → P
unfolding cover_count
count-some P f c [] h n = absurd (n refl)
count-some P f c (q ∷ qs) h n = go (covers q f c) refl n (count-some P f c qs h.1)
  where
    go : (y : Bool) → covers q f c ≡ y → (cond y 1 0 + cover_count qs f c ≡ 0 → ⊥) → ((cover_count qs f c ≡ 0 → ⊥) → P) → P
    go true e n k = h.0 e
    go false e n k = k (λ z. n (omega arith))

-- exactly one panel of the list has the face, and of that one P holds
pub record Alone (qs : List Quad) (f : Face) (c : Cell) (P : Quad → Type 0) : Type 0 where
  pub before : List Quad
  pub panel : Quad
  pub after : List Quad
  pub split : qs ≡ before ++ panel ∷ after
  pub has : covers panel f c ≡ true
  pub so : P panel
  pub none_before : cover_count before f c ≡ 0
  pub none_after : cover_count after f c ≡ 0

pub alone : (P : Quad → Type 0) (f : Face) (c : Cell) (qs : List Quad) → Each (λ q. covers q f c ≡ true → P q) qs → cover_count qs f c ≡ 1 → Alone qs f c P
unfolding cover_count
alone P f c [] h e = absurd (omega arith)
alone P f c (q ∷ qs) h e = go (covers q f c) refl e (alone P f c qs h.1)
  where
    later : covers q f c ≡ false → Alone qs f c P → Alone (q ∷ qs) f c P
    later y a =
        record {
          before = q ∷ a.before;
          panel = a.panel;
          after = a.after;
          split = ap (λ (l : List Quad). q ∷ l) a.split;
          has = a.has;
          so = a.so;
          none_before = rw y (zero-add _ ∙ a.none_before);
          none_after = a.none_after;
        }

    go : (y : Bool) → covers q f c ≡ y → cond y 1 0 + cover_count qs f c ≡ 1 → (cover_count qs f c ≡ 1 → Alone qs f c P) → Alone (q ∷ qs) f c P
    go true y e k = record { before = []; panel = q; after = qs; split = refl; has = y; so = h.0 y; none_before = refl; none_after = omega arith }
    go false y e k = later y (k (omega arith))

module _ (t : Box → Quad) (f : Face) (c : Cell) where
  count_none : (bs : List Box) → ((n : ℕ) → n < length bs → covers (t (nth bs n)) f c ≡ true → ⊥) → cover_count (map t bs) f c ≡ 0
  count_none bs h =
      count-zero f c (map t bs)
      (each_map (λ b. covers (t b) f c ≡ true → ⊥) (λ q. covers q f c ≡ true → ⊥) t (λ b e. e) bs (nth_each (λ b. covers (t b) f c ≡ true → ⊥) bs h))

  count-one : (bs : List Box) (i : ℕ) → i < length bs → covers (t (nth bs i)) f c ≡ true
      → ((n : ℕ) → n < length bs → covers (t (nth bs n)) f c ≡ true → n ≡ i) → cover_count (map t bs) f c ≡ 1
  unfolding cover_count
  count-one [] i l y h = absurd (not-suc-le-zero l)
  count-one (b ∷ bs) zero l y h = rw y (let z = count_none bs (λ n ln e. omega (arith, h (suc n) (omega arith) e)) in omega arith)
  count-one (b ∷ bs) (suc i) l y h = go (covers (t b) f c) refl (count-one bs i (le_of_suc-le-suc l) y (λ n ln e. omega (arith, h (suc n) (omega arith) e)))
    where
      go : (y : Bool) → covers (t b) f c ≡ y → cover_count (map t bs) f c ≡ 1 → cond y 1 0 + cover_count (map t bs) f c ≡ 1
      go true e z = absurd (omega (arith, h 0 (omega arith) e))
      go false e z = omega arith

-- ---- a slice

-- what holds of a panel of slice k of side s: it starts at slot (u, v), has run slots along first and rows along second,
-- none beyond the slice, and each of its faces is visible with its finish
pub record Panel (beyond : Bool) (g : Shape) (look : Cell → ℕ) (r : Region) (s k : ℕ) (q : Quad) : Type 0 where
  pub u : ℕ
  pub v : ℕ
  pub run : ℕ
  pub rows : ℕ
  pub some-run : 0 < run
  pub some-rows : 0 < rows
  pub across : u + run ≤ width_of r s
  pub down : v + rows ≤ height_of r s
  pub cell : q.cell ≡ cell_in g r s k u v
  pub face : q.face ≡ face_of s
  pub extent : q.extent ≡ extent_of (facing s 1 run rows)
  pub finish : q.voxel.0 ≡ 0 → ⊥
  pub side : (f : Face) (c : Cell) → covers q f c ≡ true → s ≡ side_number f
  pub reached : (f : Face) (c : Cell) → covers q f c ≡ true → Reached g r s k u v run rows c
  pub held : (f : Face) (c : Cell) → covers q f c ≡ true → shown beyond g look s c ≡ q.voxel.0

module _ (beyond : Bool) (g : Shape) (look : Cell → ℕ) (r : Region) (s : ℕ) (l : s < 6) (k : ℕ) where
  abbrev w : ℕ
  w = width_of r s

  abbrev h : ℕ
  h = height_of r s

  abbrev mask : List ℕ
  mask = slice_mask beyond g look r s k

  abbrev boxes : List Box
  boxes = (cut_to (limits (h ∷ w ∷ [])) nokey mask (h * w)).boxes

  abbrev Found : Box → Type 0
  Found b = Boxed w h b × Held nokey (h * w) mask b

  found : Each Found boxes
  found = each_both (Boxed w h) (Held nokey (h * w) mask) boxes (boxes_rect w h mask (h * w)) (slice_parted w h mask).each

  mask_at : (u v : ℕ) → u < w → v < h → get_or mask (v * w + u) 0 ≡ shown beyond g look s (cell_in g r s k u v)
  unfolding slice_mask slot_shown
  mask_at u v lu lv =
      get_or-table (slot_shown beyond g look r s k) (h * w) (v * w + u) (digits_lt lv lu)
      ∙ (λ i. shown beyond g look s (cell_in g r s k (digits_mod v lu i) (digits_div v lu i)))

  module _ (b : Box) (o : Found b) where
    abbrev p : ℕ
    p = b.start

    abbrev run : ℕ
    run = steps_of b.dirs 1

    abbrev rows : ℕ
    rows = steps_of b.dirs 0

    first_in : Inner w p b.dirs p
    first_in = member_inner w (h - p / w) p b.dirs o.0 p o.1.start_in

    fits-u : p % w + run ≤ w
    fits-u = let i = first_in in omega (arith, i.run, o.0.across)

    fits-v : p / w + rows ≤ h
    fits-v = let i = first_in in omega (arith, i.rows, o.0.down)

    held_at : (j i : ℕ) → j < run → i < rows → shown beyond g look s (cell_in g r s k (p % w + j) (p / w + i)) ≡ b.value
    held_at j i lj li =
        sym (mask_at (p % w + j) (p / w + i) (omega (arith, fits-u)) (omega (arith, fits-v)))
        ∙ o.1.held ((p / w + i) * w + (p % w + j)) (inner_member w (h - p / w) p b.dirs o.0 j i lj li)

    panel_of : Panel beyond g look r s k (quad_of g r s k b)
    unfolding quad_of
    panel_of =
        let n = first_in in
        record {
          u = p % w;
          v = p / w;
          run = run;
          rows = rows;
          some-run = omega (arith, n.run);
          some-rows = omega (arith, n.rows);
          across = fits-u;
          down = fits-v;
          cell = refl;
          face = refl;
          extent = refl;
          finish = o.1.seen;
          side = quad-side g r s l k b;
          reached = quad-reached g r s l k b;
          held = λ f c e.
              let q = quad-reached g r s l k b f c e in
              ap (shown beyond g look s) q.cell ∙ held_at q.j q.i q.in_run q.in_rows;
        }

    -- the panel has the slot's face exactly where the box has the slot
    has_slot : (u v : ℕ) → covers (quad_of g r s k b) (face_of s) (cell_in g r s k u v) ≡ true → Member p b.dirs (v * w + u)
    has_slot u v e =
        let q = quad-reached g r s l k b (face_of s) (cell_in g r s k u v) e in
        let a = cell_inj g r s l q.cell in
        subst (λ (x : ℕ). Member p b.dirs x) (λ i. sym a.second i * w + sym a.first i)
        (inner_member w (h - p / w) p b.dirs o.0 q.j q.i q.in_run q.in_rows)

    slot_has : (u v : ℕ) → u < w → Member p b.dirs (v * w + u) → covers (quad_of g r s k b) (face_of s) (cell_in g r s k u v) ≡ true
    slot_has u v lu m =
        let n = member_inner w (h - p / w) p b.dirs o.0 (v * w + u) m in
        let eu : p % w + n.j ≡ u = sym n.u ∙ digits_mod v lu in
        let ev : p / w + n.i ≡ v = sym n.v ∙ digits_div v lu in
        subst (λ (c : Cell). covers (quad_of g r s k b) (face_of s) c ≡ true) (λ i. cell_in g r s k (eu i) (ev i))
        (quad-covers g r s l k b n.j n.i n.run n.rows)

  found_at : (n : ℕ) → n < length boxes → Found (nth boxes n)
  found_at n ln = each_nth Found boxes found n ln

  -- each panel of the slice is so
  pub slice-each : Each (Panel beyond g look r s k) (slice_panels beyond g look r s k)
  unfolding slice_panels boxes_of
  slice-each = each_map Found (Panel beyond g look r s k) (quad_of g r s k) (λ b o. panel_of b o) boxes found

  -- THE SLICE: a visible face lies in exactly one panel, and one that is not visible in none
  pub slice-count : (u v : ℕ) → u < w → v < h
      → cover_count (slice_panels beyond g look r s k) (face_of s) (cell_in g r s k u v) ≡ seen (shown beyond g look s (cell_in g r s k u v))
  unfolding slice_panels boxes_of
  slice-count u v lu lv = go (eqb x 0) refl
    where
      c : Cell
      c = cell_in g r s k u v

      x : ℕ
      x = shown beyond g look s c

      go : (t : Bool) → eqb x 0 ≡ t → cover_count (map (quad_of g r s k) boxes) (face_of s) c ≡ seen x
      go true e =
          let z = eqb-true x 0 e in
          count_none (quad_of g r s k) (face_of s) c boxes
          (λ n ln y.
          let o = found_at n ln in
          o.1.seen (sym (o.1.held (v * w + u) (has_slot (nth boxes n) o u v y)) ∙ mask_at u v lu lv ∙ z))
          ∙ sym (seen_none x z)
      go false e =
          let z = eqb-false x 0 e in
          let a = (slice_parted w h mask).owner (v * w + u) (digits_lt lv lu) (λ y. z (sym (mask_at u v lu lv) ∙ y)) in
          count-one (quad_of g r s k) (face_of s) c boxes a.index a.listed
          (slot_has (nth boxes a.index) (found_at a.index a.listed) u v lu a.has)
          (λ n ln y. a.only n ln (has_slot (nth boxes n) (found_at n ln) u v y))
          ∙ sym (seen_one x z)

  pub slice_alone : (u v : ℕ) → u < w → v < h → (shown beyond g look s (cell_in g r s k u v) ≡ 0 → ⊥)
      → Alone (slice_panels beyond g look r s k) (face_of s) (cell_in g r s k u v) (Panel beyond g look r s k)
  slice_alone u v lu lv n =
      alone (Panel beyond g look r s k) (face_of s) (cell_in g r s k u v) (slice_panels beyond g look r s k)
      (each_so (Panel beyond g look r s k) (λ q. covers q (face_of s) (cell_in g r s k u v) ≡ true → Panel beyond g look r s k q) (λ q p e. p)
      (slice_panels beyond g look r s k) slice-each)
      (slice-count u v lu lv ∙ seen_one (shown beyond g look s (cell_in g r s k u v)) n)

  -- the panels' extents multiplied and summed are the visible faces
  quad-size : (b : Box) → Found b → product (counts_of (quad_of g r s k b).extent) ≡ size b.dirs
  unfolding quad_of
  quad-size b o =
      facing-product s l 1 (steps_of b.dirs 1) (steps_of b.dirs 0) ∙ one-mul _
      ∙ sym (rect_size w (h - b.start / w) b.start b.dirs o.0)

  sum_sizes : (bs : List Box) → Each Found bs → face_sum (map (quad_of g r s k) bs) ≡ sizes bs
  unfolding face_sum sizes
  sum_sizes [] e = refl
  sum_sizes (b ∷ bs) e = λ i. quad-size b e.0 i + sum_sizes bs e.1 i

  sizes_faces : sizes boxes ≡ faces_on beyond g look r s k
  unfolding faces_on slice_mask
  sizes_faces =
      let a = slice_parted w h mask in
      let t = (cut_to (limits (h ∷ w ∷ [])) nokey mask (h * w)).mask in
      let n : length t ≡ h * w = a.same_length ∙ length-table (slot_shown beyond g look r s k) (h * w) in
      let z = nonzeros_none t (λ q. at q t n (a.cleared q)) in
      omega (arith, a.sum, nonzeros_table (slot_shown beyond g look r s k) (h * w))
    where
      at : (q : ℕ) (t : List ℕ) → length t ≡ h * w → (q < h * w → get_or t q 0 ≡ 0) → get_or t q 0 ≡ 0
      at q t n f = go (ltb q (h * w)) refl
        where
          go : (y : Bool) → ltb q (h * w) ≡ y → get_or t q 0 ≡ 0
          go true e = f (ltb-true q (h * w) e)
          go false e = get_or-eq_default t 0 (rw n (ltb-false q (h * w) e))

  pub slice-sum : face_sum (slice_panels beyond g look r s k) ≡ faces_on beyond g look r s k
  unfolding slice_panels boxes_of
  slice-sum = sum_sizes boxes found ∙ sizes_faces

  -- no more panels than faces
  pub slice-few : length (slice_panels beyond g look r s k) ≤ faces_on beyond g look r s k
  unfolding slice_panels boxes_of
  slice-few = omega (arith, length-map boxes (quad_of g r s k), (slice_parted w h mask).few, sizes_faces)

-- the extents of a panel are positive, and 1 along its side's normal
module _ (beyond : Bool) (g : Shape) (look : Cell → ℕ) (r : Region) (s k : ℕ) (q : Quad) (p : Panel beyond g look r s k q) where
  pub panel_positive : positive q.extent ≡ true
  unfolding positive facing
  panel_positive = ap positive p.extent ∙ rw (on 0, on 1, on 2)
    where
      on : (a : ℕ) → leb 1 (turned a s 1 p.run p.rows) ≡ true
      on a = turned_so (λ x y z. leb 1 x ≡ true) a s {k' = 0} {u' = 0} {v' = 0} {k'' = 0} {u'' = 0} {v'' = 0} refl (le-leb 1 p.run p.some-run) (le-leb 1 p.rows p.some-rows)

  pub panel_flat : s < 6 → on_axis (normal_at s) (counts_of q.extent) ≡ 1
  panel_flat l = ap (λ (e : Extent). on_axis (normal_at s) (counts_of e)) p.extent ∙ (facing-along s l 1 p.run p.rows).normal

-- ---- the cells of a part

pub record InPart (g : Shape) (r : Region) (c : Cell) : Type 0 where
  pub at : Point
  pub within : Within r.count at
  pub cell : c ≡ cell_from g (added r.low at)

-- by slice and slot of a side
pub record InSlice (g : Shape) (r : Region) (s : ℕ) (c : Cell) : Type 0 where
  pub k : ℕ
  pub u : ℕ
  pub v : ℕ
  pub deep : k < depth_of r s
  pub wide : u < width_of r s
  pub high : v < height_of r s
  pub cell : c ≡ cell_in g r s k u v

module _ (g : Shape) (r : Region) (s : ℕ) (l : s < 6) where
  pub part_slice : (c : Cell) → InPart g r c → InSlice g r s c
  unfolding cell_in depth_of width_of height_of
  part_slice c i =
      let h = on_axis_lem r.count i.at i.within in
      record {
        k = on_axis (normal_at s) i.at;
        u = on_axis (first_at s) i.at;
        v = on_axis (second_at s) i.at;
        deep = h (normal_at s);
        wide = h (first_at s);
        high = h (second_at s);
        cell = i.cell ∙ ap (λ (p : Point). cell_from g (added r.low p)) (sym (facing-back s l i.at));
      }

  pub slice-part : (c : Cell) → InSlice g r s c → InPart g r c
  unfolding cell_in
  slice-part c i =
      record {
        at = facing s i.k i.u i.v;
        within = subst (λ (p : Point). Within p (facing s i.k i.u i.v)) (part-size r s l) (facing-within s i.deep i.wide i.high);
        cell = i.cell;
      }

-- ---- a part

pub count-append : (f : Face) (c : Cell) (xs ys : List Quad) → cover_count (xs ++ ys) f c ≡ cover_count xs f c + cover_count ys f c
unfolding cover_count
count-append f c [] ys = sym (zero-add _)
count-append f c (x ∷ xs) ys = rw (count-append f c xs ys) (sym (add_assoc (cond (covers x f c) 1 0) (cover_count xs f c) (cover_count ys f c)))

pub faces-append : (xs ys : List Quad) → face_sum (xs ++ ys) ≡ face_sum xs + face_sum ys
unfolding face_sum
faces-append [] ys = sym (zero-add _)
faces-append (x ∷ xs) ys = rw (faces-append xs ys) (sym (add_assoc (product (counts_of x.extent)) (face_sum xs) (face_sum ys)))

-- what adds up over lists adds up over slices and sides
module _ (μ : List Quad → ℕ) (none : μ [] ≡ 0) (plus : (xs ys : List Quad) → μ (xs ++ ys) ≡ μ xs + μ ys) (beyond : Bool) (g : Shape) (look : Cell → ℕ) (r : Region) where
  side_adds : (s n : ℕ) → μ (side_panels beyond g look r s n) ≡ sum_to (λ k. μ (slice_panels beyond g look r s k)) n
  unfolding side_panels sum_to
  side_adds s zero = none
  side_adds s (suc n) = plus (side_panels beyond g look r s n) (slice_panels beyond g look r s n) ∙ ap (λ (a : ℕ). a + μ (slice_panels beyond g look r s n)) (side_adds s n)

  sides_add : (n : ℕ) → μ (panels_to beyond g look r n) ≡ sum_to (λ s. sum_to (λ k. μ (slice_panels beyond g look r s k)) (depth_of r s)) n
  unfolding panels_to sum_to
  sides_add zero = none
  sides_add (suc n) = plus (panels_to beyond g look r n) (side_panels beyond g look r n (depth_of r n)) ∙ (λ i. sides_add n i + side_adds n (depth_of r n) i)

  pub part_adds : μ (part_panels beyond g look r) ≡ sum_to (λ s. sum_to (λ k. μ (slice_panels beyond g look r s k)) (depth_of r s)) 6
  unfolding part_panels
  part_adds = sides_add 6

-- a panel of the part: its side and its slice
pub record Listed (beyond : Bool) (g : Shape) (look : Cell → ℕ) (r : Region) (q : Quad) : Type 0 where
  pub s : ℕ
  pub k : ℕ
  pub side : s < 6
  pub slice : k < depth_of r s
  pub panel : Panel beyond g look r s k q

-- a face of the panel is one of the part, on the panel's side, and visible with its finish
pub record Faced (beyond : Bool) (g : Shape) (look : Cell → ℕ) (r : Region) (q : Quad) (f : Face) (c : Cell) : Type 0 where
  pub face : q.face ≡ f
  pub part : InPart g r c
  pub held : shown beyond g look (side_number f) c ≡ q.voxel.0
  pub finish : q.voxel.0 ≡ 0 → ⊥

pub face_side : (f : Face) → face_of (side_number f) ≡ f
face_side East = refl
face_side West = refl
face_side Top = refl
face_side Bottom = refl
face_side North = refl
face_side South = refl

module _ (beyond : Bool) (g : Shape) (look : Cell → ℕ) (r : Region) where
  panel_faced : (q : Quad) → Listed beyond g look r q → (f : Face) (c : Cell) → covers q f c ≡ true → Faced beyond g look r q f c
  panel_faced q i f c e =
      let p = i.panel in
      let es = p.side f c e in
      let x = p.reached f c e in
      record {
        face = p.face ∙ ap face_of es ∙ face_side f;
        part = slice-part g r i.s i.side c
            (record { k = i.k; u = p.u + x.j; v = p.v + x.i; deep = i.slice; wide = omega (arith, x.in_run, p.across); high = omega (arith, x.in_rows, p.down); cell = x.cell });
        held = ap (λ (s : ℕ). shown beyond g look s c) (sym es) ∙ p.held f c e;
        finish = p.finish;
      }

  side-each : (s n : ℕ) → s < 6 → n ≤ depth_of r s → Each (Listed beyond g look r) (side_panels beyond g look r s n)
  unfolding side_panels
  side-each s zero l ln = tt
  side-each s (suc n) l ln =
      each_append (Listed beyond g look r) (side_panels beyond g look r s n) (slice_panels beyond g look r s n) (side-each s n l (omega arith))
      (each_so (Panel beyond g look r s n) (Listed beyond g look r) (λ q p. record { s = s; k = n; side = l; slice = ln; panel = p })
      (slice_panels beyond g look r s n) (slice-each beyond g look r s l n))

  sides_each : (n : ℕ) → n ≤ 6 → Each (Listed beyond g look r) (panels_to beyond g look r n)
  unfolding panels_to
  sides_each zero ln = tt
  sides_each (suc n) ln =
      each_append (Listed beyond g look r) (panels_to beyond g look r n) (side_panels beyond g look r n (depth_of r n)) (sides_each n (omega arith))
      (side-each n (depth_of r n) ln (le_refl _))

  pub part-each : Each (Listed beyond g look r) (part_panels beyond g look r)
  unfolding part_panels
  part-each = sides_each 6 (le_refl _)

  -- each face of each panel
  pub part-faces : Each (λ q. (f : Face) (c : Cell) → covers q f c ≡ true → Faced beyond g look r q f c) (part_panels beyond g look r)
  part-faces =
      each_so (Listed beyond g look r) (λ q. (f : Face) (c : Cell) → covers q f c ≡ true → Faced beyond g look r q f c) panel_faced
      (part_panels beyond g look r) part-each

  -- THE PART: a visible face lies in exactly one panel, and one that is not visible in none
  pub part_count : (s : ℕ) → s < 6 → (c : Cell) → InPart g r c → cover_count (part_panels beyond g look r) (face_of s) c ≡ seen (shown beyond g look s c)
  part_count s l c i =
      part_adds (λ qs. cover_count qs (face_of s) c) nothing (count-append (face_of s) c) beyond g look r
      ∙ sum_only (λ t. sum_to (on t) (depth_of r t)) 6 s l (λ t lt d. sum-none (on t) (depth_of r t) (λ k lk. other t k lt (λ e. d e.0)))
      ∙ sum_only (on s) (depth_of r s) a.k a.deep (λ k lk d. other s k l (λ e. d e.1))
      ∙ ap (cover_count (slice_panels beyond g look r s a.k) (face_of s)) a.cell
      ∙ slice-count beyond g look r s l a.k a.u a.v a.wide a.high
      ∙ ap (λ (d : Cell). seen (shown beyond g look s d)) (sym a.cell)
    where
      a : InSlice g r s c
      a = part_slice g r s l c i

      on : ℕ → ℕ → ℕ
      on t k = cover_count (slice_panels beyond g look r t k) (face_of s) c

      nothing : cover_count [] (face_of s) c ≡ 0
      nothing = count-zero (face_of s) c [] tt

      other : (t k : ℕ) → t < 6 → ((t ≡ s) × (k ≡ a.k) → ⊥) → on t k ≡ 0
      other t k lt n =
          count-zero (face_of s) c (slice_panels beyond g look r t k)
          (each_so (Panel beyond g look r t k) (λ q. covers q (face_of s) c ≡ true → ⊥)
          (λ q p e.
          let es : t ≡ s = p.side (face_of s) c e ∙ side_face s l in
          let x = subst (λ (t : ℕ). Reached g r t k p.u p.v p.run p.rows c) es (p.reached (face_of s) c e) in
          n (es, (cell_inj g r s l (sym x.cell ∙ a.cell)).normal))
          (slice_panels beyond g look r t k) (slice-each beyond g look r t lt k))

  at_face : (f : Face) (c : Cell) → Each (λ q. covers q f c ≡ true → Faced beyond g look r q f c) (part_panels beyond g look r)
  at_face f c =
      each_so (λ q. (f : Face) (c : Cell) → covers q f c ≡ true → Faced beyond g look r q f c) (λ q. covers q f c ≡ true → Faced beyond g look r q f c)
      (λ q h. h f c) (part_panels beyond g look r) part-faces

  -- the one panel has the face's finish
  pub part_alone : (s : ℕ) → s < 6 → (c : Cell) → InPart g r c → (shown beyond g look s c ≡ 0 → ⊥)
      → Alone (part_panels beyond g look r) (face_of s) c (λ q. Faced beyond g look r q (face_of s) c)
  part_alone s l c i n =
      alone (λ q. Faced beyond g look r q (face_of s) c) (face_of s) c (part_panels beyond g look r) (at_face (face_of s) c)
      (part_count s l c i ∙ seen_one (shown beyond g look s c) n)

  -- a face of no cell of the part lies in no panel
  pub part_only : (f : Face) (c : Cell) → (cover_count (part_panels beyond g look r) f c ≡ 0 → ⊥) → InPart g r c
  part_only f c n =
      count-some (InPart g r c) f c (part_panels beyond g look r)
      (each_so (λ q. covers q f c ≡ true → Faced beyond g look r q f c) (λ q. covers q f c ≡ true → InPart g r c) (λ q h e. (h e).part)
      (part_panels beyond g look r) (at_face f c)) n

  -- the extents multiplied and summed are the visible faces, and there are no more panels than those
  pub part-sum : face_sum (part_panels beyond g look r) ≡ faces_in beyond g look r
  unfolding faces_in face_sum
  part-sum =
      part_adds face_sum refl faces-append beyond g look r
      ∙ sum_same (λ s. sum_to (λ k. face_sum (slice_panels beyond g look r s k)) (depth_of r s)) (λ s. sum_to (faces_on beyond g look r s) (depth_of r s)) 6
      (λ s l. sum_same (λ k. face_sum (slice_panels beyond g look r s k)) (faces_on beyond g look r s) (depth_of r s) (λ k lk. slice-sum beyond g look r s l k))

  pub part-few : length (part_panels beyond g look r) ≤ faces_in beyond g look r
  unfolding faces_in
  part-few =
      let a = part_adds length refl length-append beyond g look r in
      let b = sum-most (λ s. sum_to (λ k. length (slice_panels beyond g look r s k)) (depth_of r s)) (λ s. sum_to (faces_on beyond g look r s) (depth_of r s)) 6
      (λ s l. sum-most (λ k. length (slice_panels beyond g look r s k)) (faces_on beyond g look r s) (depth_of r s) (λ k lk. slice-few beyond g look r s l k)) in
      omega arith

  -- no more visible faces than six to a cell
  pub part-most : faces_in beyond g look r ≤ 6 * product r.count
  unfolding faces_in faces_on
  part-most =
      let a = sum-most (λ s. sum_to (faces_on beyond g look r s) (depth_of r s)) (λ s. product r.count) 6 on in
      omega (arith, sum_const (product r.count) 6)
    where
      on : (s : ℕ) → s < 6 → sum_to (faces_on beyond g look r s) (depth_of r s) ≤ product r.count
      on s l =
          let n = height_of r s * width_of r s in
          let a = sum-most (faces_on beyond g look r s) (λ k. n) (depth_of r s) (λ k lk. seen-sum (slot_shown beyond g look r s k) n) in
          let b = sum_const n (depth_of r s) in
          let c = sym (facing-product s l (depth_of r s) (width_of r s) (height_of r s)) ∙ ap product (part-size r s l) in
          omega arith
