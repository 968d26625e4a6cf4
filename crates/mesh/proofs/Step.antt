-- One step on from a slice: the next cell along one axis, in a section, in the neighbouring one, and outside.
use mathlib.Core.Path.{◌≡◌, refl, sym, ap, ◌∙◌, subst}
use mathlib.Core.Bool.{Bool, true, false, cond, and-false}
use mathlib.Core.Logic.{inl, inr}
use Prim.Native.Nat.{ℕ, zero, suc, ◌+◌, ◌-◌, ◌*◌, ◌/◌, ◌%◌, ◌≤◌, ◌<◌}
use native.Mathlib.Nat.{add-mul, add-zero, le-mul_of_pos_right, mul_comm, one-mul}
use native.Mathlib.Omega.{arith}
use borrow.Author.Tests.{eq-eqb, le-ltb, leb-true, ne_eqb}
use lib.Dec.{eqb, leb-zero}
use lib.IntN.{ℤ, pos, negsuc, ◌+ℤ◌, ◌-ℤ◌, +ℤ_assoc, +ℤ_comm, +ℤ_idr, +ℤ-neg_ℤ_cancel}
use mir.Syntax.{w32}
use mir.Val.{SFits}
use Rattle.arith.proofs.Levels.{number-sum}
use Rattle.arith.proofs.Signed.{level_bound, sub_ge}
use Rattle.arith.specs.Level.{level_of, number_of}
use Rattle.arith.specs.Saturate.{saturate}
use Rattle.stand.specs.Cells.{cell_of, moved}
use Rattle.stand.specs.Shape.{Below, Ranged, Shape, cell_from, chunk_place, chunks_in, chunks_on, corner, counted, counts_of, inside, inside_on, last_fits, levels_of, max_chunks, opens, point_of, product, section_at, sections, shape_of, slot, well_formed, within_at}
use Rattle.stand.specs.Sides.{first_at, normal_at, second_at, step_at, step_on, way_at}
use Rattle.stand.specs.declared.Cell.{Cell}
use Rattle.stand.specs.declared.volume.Volume.{Volume}
use Rattle.stand.specs.declared.volume.formed.Formed.{Formed}
use Rattle.stand.specs.declared.volume.shape.Point.{Point}
use Rattle.stand.proofs.Formed.{corner-x, corner-y, corner-z}
use Rattle.stand.proofs.Levels.{from_law, last_law}
use Rattle.stand.proofs.Shape.{Within, formed-counts, formed-opens, goods, inside-from, sections-few, slot-from, slot_lt}
use Rattle.stand.proofs.Slots.{section-place}
use Rattle.mesh.specs.Part.{SectionLies, added, cell_in, cut_at, depth_of, facing, height_of, on_axis, section_part, turned, width_of}
use Rattle.mesh.specs.Scene.{open_in, shape_in}
use Rattle.mesh.specs.Step.{EachSlot, Follows, hop_on, next_outside, onward, part_in}
use Rattle.mesh.specs.Visible.{ahead}
use Rattle.mesh.specs.declared.part.Next.{Next}
use Rattle.mesh.specs.declared.part.Next.TheVariants as N
use Rattle.mesh.specs.declared.scene.Scene.{Scene}
use Rattle.mesh.specs.declared.scene.Section.{Section}
use Rattle.mesh.proofs.Parts.{Cut, Extents, arranged, cell-within, facing_sixteen, facing_of, place_in, points, scaled, section_extents, section_in, section-inside, section-on, section-slot, slot_in}

-- ---- along one axis, n cells from o on

way_up : (s : ℕ) → s % 2 ≡ 0 → way_at s ≡ pos 1
unfolding way_at
way_up s e = rw (eq-eqb (s % 2) 0 e)

way_down : (s : ℕ) → s % 2 ≡ 1 → way_at s ≡ negsuc 0
unfolding way_at
way_down s e = rw (ne_eqb (s % 2) 0 (λ h. omega arith))

pub gone : (o z : ℤ) → (o +ℤ z) -ℤ o ≡ z
gone o z = ap (λ (y : ℤ). y -ℤ o) (+ℤ_comm o z) ∙ +ℤ-neg_ℤ_cancel z o

module _ (o : ℤ) (f : SFits w32 o) where
  stay : (d : ℕ) → level_of o + d < 4294967296 → saturate (o +ℤ pos d +ℤ pos 0) ≡ o +ℤ pos d
  stay d h = ap saturate (+ℤ_idr (o +ℤ pos d)) ∙ from_law o d f h

  up : (d : ℕ) → level_of o + (d + 1) < 4294967296 → saturate (o +ℤ pos d +ℤ pos 1) ≡ o +ℤ pos (d + 1)
  up d h = ap saturate (+ℤ_assoc o (pos d) (pos 1)) ∙ from_law o (d + 1) f h

  down : (d : ℕ) → level_of o + d < 4294967296 → saturate (o +ℤ pos (d + 1) +ℤ negsuc 0) ≡ o +ℤ pos d
  down d h =
      ap saturate (+ℤ_assoc o (pos (d + 1)) (negsuc 0) ∙ ap (λ (z : ℤ). o +ℤ z) (sub_ge (d + 1) 1 (omega arith) ∙ ap pos (omega arith)))
      ∙ from_law o d f h

  -- the ends of i32
  up_end : (d : ℕ) → level_of o + d ≡ 4294967295 → saturate (o +ℤ pos d +ℤ pos 1) ≡ o +ℤ pos d
  unfolding saturate number_of
  up_end d h =
      let e : o +ℤ pos d ≡ pos 2147483647 = sym (number-sum o d f (omega arith)) ∙ ap number_of h in
      ap (λ (z : ℤ). saturate (z +ℤ pos 1)) e ∙ sym e

  down_end : (d : ℕ) → level_of o + d ≡ 0 → saturate (o +ℤ pos d +ℤ negsuc 0) ≡ o +ℤ pos d
  unfolding saturate number_of
  down_end d h =
      let e : o +ℤ pos d ≡ negsuc 2147483647 = sym (number-sum o d f (omega arith)) ∙ ap number_of h in
      ap (λ (z : ℤ). saturate (z +ℤ negsuc 0)) e ∙ sym e

  -- past the last cell, and before the first one
  up_out : (n d : ℕ) → n ≤ d + 1 → level_of o + (d + 1) < 4294967296 → inside_on o n (saturate (o +ℤ pos d +ℤ pos 1)) ≡ false
  unfolding inside_on
  up_out n d l h = rw (up d h) (rw (gone o (pos (d + 1))) (rw (leb-zero (d + 1)) (le-ltb (d + 1) n l)))

pub below-fits : (o : ℤ) → SFits w32 o → 0 < level_of o → SFits w32 (o +ℤ negsuc 0)
below-fits (pos zero) f h = record { sfits = omega arith }
below-fits (pos (suc m)) f h = rw (sub_ge (suc m) 1 (omega arith)) (record { sfits = omega (arith, f.sfits) })
below-fits (negsuc m) f h = record { sfits = omega arith }

saturate-fits : (z : ℤ) → SFits w32 z → saturate z ≡ z
saturate-fits z f = ap saturate (sym (+ℤ_idr z)) ∙ from_law z 0 f (omega (arith, level_bound z f)) ∙ +ℤ_idr z

down_out : (o : ℤ) → SFits w32 o → (n d : ℕ) → d ≡ 0 → 0 < level_of o → inside_on o n (saturate (o +ℤ pos d +ℤ negsuc 0)) ≡ false
unfolding inside_on
down_out o f n d e h =
    ap (λ (z : ℤ). inside_on o n (saturate (z +ℤ negsuc 0))) (ap (λ (m : ℕ). o +ℤ pos m) e ∙ +ℤ_idr o)
    ∙ ap (inside_on o n) (saturate-fits _ (below-fits o f h))
    ∙ rw (gone o (negsuc 0))

-- ---- from a cell of a slice

-- a cell's coordinate along an axis
abbrev pub coord_on : ℕ → Cell → ℤ
coord_on zero c = c.x
coord_on (suc zero) c = c.y
coord_on (suc (suc a)) c = c.z

-- the coordinate along axis n of the cell at number m from point l on
abbrev pub spot_on : Shape → Point → ℕ → ℕ → ℤ
spot_on g l n m = coord_on n g.origin +ℤ pos (on_axis n l + m)

-- the same of side s's normal, and one step on
abbrev pub spot : Shape → Point → ℕ → ℕ → ℤ
spot g l s m = spot_on g l (normal_at s) m

abbrev pub stepped : Shape → Point → ℕ → ℕ → ℤ
stepped g l s m = saturate (spot g l s m +ℤ way_at s)

pub fits_on : (c : Cell) → Ranged c → (a : ℕ) → SFits w32 (coord_on a c)
fits_on c r zero = r.x
fits_on c r (suc zero) = r.y
fits_on c r (suc (suc a)) = r.z

pub level_on : (c : Cell) (a : ℕ) → on_axis a (levels_of c) ≡ level_of (coord_on a c)
level_on c zero = refl
level_on c (suc zero) = refl
level_on c (suc (suc a)) = refl

pub added-on : (a : ℕ) (p q : Point) → on_axis a (added p q) ≡ on_axis a p + on_axis a q
unfolding added
added-on zero p q = refl
added-on (suc zero) p q = refl
added-on (suc (suc a)) p q = refl

pub scaled_on : (a : ℕ) (p : Point) → on_axis a (scaled p) ≡ on_axis a p * 16
scaled_on zero p = refl
scaled_on (suc zero) p = refl
scaled_on (suc (suc a)) p = refl

level_room : (o : ℤ) (n : ℕ) → SFits w32 o → last_fits o n ≡ true → level_of o + n ≤ 4294967296
level_room o n f e = leb-true (level_of o + n) 4294967296 (sym (last_law o n f) ∙ e)

module _ (g : Shape) (o : opens g ≡ true) (r : Ranged g.origin) where
  -- the levels of a shape that opening gives
  pub room-on : (a : ℕ) → level_of (coord_on a g.origin) + on_axis a g.size ≤ 4294967296
  unfolding opens
  room-on zero = level_room _ _ r.x (goods _ _ _ o).x.last
  room-on (suc zero) = level_room _ _ r.y (goods _ _ _ o).y.last
  room-on (suc (suc a)) = level_room _ _ r.z (goods _ _ _ o).z.last

  module _ (l : Point) (s k : ℕ) where
    pub up_from : s % 2 ≡ 0 → level_of (coord_on (normal_at s) g.origin) + (on_axis (normal_at s) l + k + 1) < 4294967296
        → stepped g l s k ≡ spot g l s (k + 1)
    up_from e h =
        rw (way_up s e) (up (coord_on (normal_at s) g.origin) (fits_on g.origin r (normal_at s)) (on_axis (normal_at s) l + k) h
        ∙ ap (λ (m : ℕ). coord_on (normal_at s) g.origin +ℤ pos m) (omega arith))

    pub down_from : s % 2 ≡ 1 → level_of (coord_on (normal_at s) g.origin) + (on_axis (normal_at s) l + k) < 4294967296
        → stepped g l s (k + 1) ≡ spot g l s k
    down_from e h =
        rw (way_down s e) (ap (λ (m : ℕ). saturate (coord_on (normal_at s) g.origin +ℤ pos m +ℤ negsuc 0)) (omega arith)
        ∙ down (coord_on (normal_at s) g.origin) (fits_on g.origin r (normal_at s)) (on_axis (normal_at s) l + k) h)

  module _ (l : Point) (s k u v : ℕ) (h : s < 6) where
    abbrev goes : ℕ → ℕ → ℕ → ℤ
    goes a n f = saturate (spot_on g l a (on_axis a (facing_of n f k u v)) +ℤ cond (eqb a n) (way_at s) (pos 0))

    still : (a : ℕ) (d : ℕ) → on_axis a l + d < on_axis a g.size → saturate (spot_on g l a d +ℤ pos 0) ≡ spot_on g l a d
    still a d t = stay (coord_on a g.origin) (fits_on g.origin r a) (on_axis a l + d) (omega (arith, room-on a))

    module _ (w : Within g.size (added l (facing s k u v))) where
      -- the next cell, from that along the normal
      pub ahead-at : (m : ℕ) → stepped g l s k ≡ spot g l s m → ahead s (cell_from g (added l (facing s k u v))) ≡ cell_from g (added l (facing s m u v))
      unfolding ahead moved step_at step_on cell_from added facing turned
      ahead-at m =
          arranged (λ n f t. Within g.size (added l (facing_of n f k u v)) → saturate (spot_on g l n k +ℤ way_at s) ≡ spot_on g l n m → cell_of (goes 0 n f) (goes 1 n f) (goes 2 n f) ≡ cell_from g (added l (facing_of n f m u v)))
          (λ w e. λ i. cell_of (e i) (still 1 u w.y i) (still 2 v w.z i))
          (λ w e. λ i. cell_of (still 0 u w.x i) (e i) (still 2 v w.z i))
          (λ w e. λ i. cell_of (still 0 u w.x i) (still 1 v w.y i) (e i))
          s h w

      pub within-normal : on_axis (normal_at s) l + k < on_axis (normal_at s) g.size
      unfolding added facing turned
      within-normal =
          arranged (λ n f t. Within g.size (added l (facing_of n f k u v)) → on_axis n l + k < on_axis n g.size)
          (λ w. w.x) (λ w. w.y) (λ w. w.z) s h w

      pub within-at : (m : ℕ) → on_axis (normal_at s) l + m < on_axis (normal_at s) g.size → Within g.size (added l (facing s m u v))
      unfolding added facing turned
      within-at m =
          arranged (λ n f t. Within g.size (added l (facing_of n f k u v)) → on_axis n l + m < on_axis n g.size → Within g.size (added l (facing_of n f m u v)))
          (λ w e. record { x = e; y = w.y; z = w.z })
          (λ w e. record { x = w.x; y = e; z = w.z })
          (λ w e. record { x = w.x; y = w.y; z = e })
          s h w

    -- outside along the normal is outside
    pub outside_at : inside_on (coord_on (normal_at s) g.origin) (on_axis (normal_at s) g.size) (stepped g l s k) ≡ false → inside g (ahead s (cell_from g (added l (facing s k u v)))) ≡ false
    unfolding ahead moved step_at step_on cell_from added facing turned inside
    outside_at =
        arranged (λ n f t. inside_on (coord_on n g.origin) (on_axis n g.size) (saturate (spot_on g l n k +ℤ way_at s)) ≡ false → inside g (cell_of (goes 0 n f) (goes 1 n f) (goes 2 n f)) ≡ false)
        (λ e. rw e) (λ e. simp (e, and-false)) (λ e. simp (e, and-false)) s h

-- ---- neighbouring sections

-- a place one section further along the normal
abbrev pub further : ℕ → Point → Point
further s p = added p (facing s 1 0 0)

module _ (s : ℕ) (h : s < 6) (p : Point) where
  pub carry : (k u v : ℕ) → added (scaled (further s p)) (facing s k u v) ≡ added (scaled p) (facing s (16 + k) u v)
  unfolding added facing turned
  carry k u v =
      arranged (λ n f t. added (scaled (added p (facing_of n f 1 0 0))) (facing_of n f k u v) ≡ added (scaled p) (facing_of n f (16 + k) u v))
      (points (omega arith) (omega arith) (omega arith))
      (points (omega arith) (omega arith) (omega arith))
      (points (omega arith) (omega arith) (omega arith))
      s h

  pub hop_law : (k : Point) → section_at k (further s p) ≡ section_at k p + hop_on k (normal_at s)
  unfolding added facing turned section_at
  hop_law k =
      arranged (λ n f t. section_at k (added p (facing_of n f 1 0 0)) ≡ section_at k p + hop_on k n)
      (simp add-zero (omega arith))
      (simp (add-zero, add-mul, one-mul) (omega arith))
      (simp (add-zero, add-mul, one-mul) (omega (arith, mul_comm k.y k.x)))
      s h

  -- and one section back
  pub behind : Point
  behind = facing s (on_axis (normal_at s) p - 1) (on_axis (first_at s) p) (on_axis (second_at s) p)

  pub behind_further : 0 < on_axis (normal_at s) p → further s behind ≡ p
  unfolding behind added facing turned
  behind_further =
      arranged (λ n f t. 0 < on_axis n p → added (facing_of n f (on_axis n p - 1) (on_axis f p) (on_axis t p)) (facing_of n f 1 0 0) ≡ p)
      (λ l. points (omega arith) (omega arith) (omega arith))
      (λ l. points (omega arith) (omega arith) (omega arith))
      (λ l. points (omega arith) (omega arith) (omega arith))
      s h

pub counted-on : (g : Shape) (a : ℕ) → on_axis a (counted g) ≡ chunks_on (on_axis a g.size)
unfolding counted chunks_in
counted-on g zero = refl
counted-on g (suc zero) = refl
counted-on g (suc (suc a)) = refl

-- ---- a slice of a section, and what follows it

pub chunks_few : (h : Formed) → sections (shape_of h.volume) ≤ max_chunks
chunks_few h = sections-few (shape_of h.volume) (formed-opens h.volume h.formed)

pub opened : (s : Scene) → opens (shape_in s) ≡ true
opened s = formed-opens s.stand.header.volume s.stand.header.formed

module _ (c : Section) (s k : ℕ) (hs : s < 6) (hk : k < depth_of (part_in c) s) where
  abbrev g : Shape
  g = shape_in c.scene

  abbrev i : ℕ
  i = c.chunk

  o : opens g ≡ true
  o = opened c.scene

  ranged : Ranged g.origin
  ranged = c.lies.ranged

  -- along the normal: the stand's cells and its first level, the section's place, and its cells
  abbrev size : ℕ
  size = on_axis (normal_at s) g.size

  abbrev start : ℤ
  start = coord_on (normal_at s) g.origin

  abbrev pub at : ℕ
  at = on_axis (normal_at s) (chunk_place (counted g) i)

  pub cut-normal : Cut size at (depth_of (section_part g i) s)
  unfolding depth_of
  cut-normal = section-on g i c.lies.chunk (normal_at s)

  low-normal : on_axis (normal_at s) (section_part g i).low ≡ at * 16
  unfolding section_part corner
  low-normal = scaled_on (normal_at s) (chunk_place (counted g) i)

  -- bounds of the code's sums
  pub few : sections g ≤ max_chunks
  few = sections-few g o

  pub level_lt : level_of start + at * 16 + k < 4294967296
  level_lt = omega (arith, cut-normal.fits, hk, room-on g o ranged (normal_at s))

  -- what the code reads
  module _ {a d : ℕ} (e : a ≡ normal_at s) where
    pub depth_is : d ≡ on_axis a c.count → d ≡ depth_of (section_part g i) s
    unfolding depth_of
    depth_is p = p ∙ (λ j. on_axis (e j) (c.lies.count j))

    pub place_is : d ≡ on_axis a c.place → d ≡ at
    place_is p = p ∙ (λ j. on_axis (e j) (c.lies.place j))

    pub chunks-is : d ≡ on_axis a c.chunks → d ≡ chunks_on size
    chunks-is p = p ∙ (λ j. on_axis (e j) (c.lies.chunks j)) ∙ counted-on g (normal_at s)

    pub low-is : d ≡ on_axis a c.low → d ≡ level_of start + at * 16
    low-is p =
        p ∙ (λ j. on_axis (e j) (c.lies.low j)) ∙ added-on (normal_at s) _ _
        ∙ (λ j. level_on g.origin (normal_at s) j + low-normal j)

    pub hop_is : d ≡ hop_on c.chunks a → d ≡ hop_on (counted g) (normal_at s)
    hop_is p = p ∙ (λ j. hop_on (c.lies.chunks j) (e j))

  pub plane_few : c.chunks.x * c.chunks.y < 4294967296
  unfolding sections product
  plane_few =
      let e : c.chunks.x * c.chunks.y ≡ (counted g).x * (counted g).y = (λ j. (c.lies.chunks j).x * (c.lies.chunks j).y) in
      let z = (place_in (counted g) i c.lies.chunk).z in
      omega (arith, sections-few g o, le-mul_of_pos_right {m = (counted g).z} ((counted g).x * (counted g).y) (omega arith))

  pub extents : Extents (section_part g i) s
  extents = section_extents g i c.lies.chunk s

  module _ (u v : ℕ) (hu : u < width_of (section_part g i) s) (hv : v < height_of (section_part g i) s) where
    within : Within g.size (added (section_part g i).low (facing s k u v))
    within = cell-within g (section_part g i) s k u v (section_in g i c.lies.chunk) hs hk hu hv

    pub narrow : (u < 16) × (v < 16)
    narrow = (omega (arith, extents.width), omega (arith, extents.height))

    to_slice : (m : ℕ) → stepped g (section_part g i).low s k ≡ spot g (section_part g i).low s m
        → ahead s (cell_in g (section_part g i) s k u v) ≡ cell_in g (section_part g i) s m u v
    unfolding cell_in
    to_slice m = ahead-at g o ranged (section_part g i).low s k u v hs within m

  follows_at : (j t : ℕ) → t < 16
      → EachSlot c s (λ u v. (inside g (onward c s k u v) ≡ true) × (slot g (onward c s k u v) ≡ j * 4096 + within_at (facing s t u v)))
      → Follows c s k (N.At j t)
  follows_at j t h f =
      let p = f 0 0 extents.wide extents.high in
      (omega (arith, slot_lt g (onward c s k 0 0) o p.0, p.1), h, f)

  in_section : (m : ℕ) → m < depth_of (section_part g i) s
      → stepped g (section_part g i).low s k ≡ spot g (section_part g i).low s m
      → Follows c s k (N.At i m)
  in_section m h e =
      follows_at i m (omega (arith, cut-normal.most)) (λ u v hu hv.
      let p = to_slice u v hu hv m e in
      (ap (inside g) p ∙ section-inside g i s m u v c.lies.chunk hs h hu hv, ap (slot g) p ∙ section-slot g i s m u v c.lies.chunk hs h hu hv))

  -- a cell that lies in another section at place p, slice t
  in_other : (p : Point) (j t : ℕ) → t < 16 → section_at (counted g) p ≡ j
      → EachSlot c s (λ u v. (onward c s k u v ≡ cell_from g (added (scaled p) (facing s t u v))) × Within g.size (added (scaled p) (facing s t u v)))
      → Follows c s k (N.At j t)
  in_other p j t h e f =
      follows_at j t h (λ u v hu hv.
      let w = f u v hu hv in
      let n = narrow u v hu hv in (
        ap (inside g) w.0 ∙ inside-from g _ w.1,
        ap (slot g) w.0 ∙ slot-from g _ ∙ slot_in (counted g) p (facing s t u v) (facing_sixteen s t u v hs h n.0 n.1)
            ∙ ap (λ (m : ℕ). m * 4096 + within_at (facing s t u v)) e,
      ))

  -- the step ends at the cell itself
  at-end : stepped g (section_part g i).low s k ≡ spot g (section_part g i).low s k
      → Follows c s k N.Shut
  at-end e u v hu hv = inr (to_slice u v hu hv k e)

  -- the step leaves the stand
  module _ (e : inside_on start size (stepped g (section_part g i).low s k) ≡ false) where
    off : (u v : ℕ) → inside g (onward c s k u v) ≡ false
    unfolding cell_in
    off u v = outside_at g o ranged (section_part g i).low s k u v hs e

    leaves : {n : Next} → n ≡ next_outside (open_in c.scene) → Follows c s k n
    leaves e = rw e (by (open_in c.scene) refl)
      where
        by : (b : Bool) → open_in c.scene ≡ b → Follows c s k (next_outside b)
        by true b = λ u v hu hv. (off u v, b)
        by false b = λ u v hu hv. inl (off u v, b)

  fits : SFits w32 start
  fits = fits_on g.origin ranged (normal_at s)

  room : level_of start + size ≤ 4294967296
  room = room-on g o ranged (normal_at s)

  -- ---- up

  module _ (even : s % 2 ≡ 0) where
    rises : at * 16 + k + 1 < size → stepped g (section_part g i).low s k ≡ spot g (section_part g i).low s (k + 1)
    rises h = up_from g o ranged (section_part g i).low s k even (omega (arith, low-normal, room))

    pub up_in : k + 1 < depth_of (section_part g i) s → Follows c s k (N.At i (k + 1))
    up_in h = in_section (k + 1) h (rises (omega (arith, cut-normal.fits)))

    module _ (top : depth_of (section_part g i) s ≤ k + 1) where
      pub up_hop : {d : ℕ} → d ≡ hop_on (counted g) (normal_at s) → at + 1 < chunks_on size → Follows c s k (N.At (i + d) 0)
      unfolding chunks_on cell_in section_part corner
      up_hop {d} e h =
          let n : at * 16 + 16 < size = omega arith in
          let m : k + 1 ≡ 16 = omega (arith, cut-normal.is, cut-normal.most, hk) in
          in_other (further s (chunk_place (counted g) i)) (i + d) 0 (omega arith)
          (hop_law s hs (chunk_place (counted g) i) (counted g) ∙ (λ j. section-place (counted g) i j + sym e j))
          (λ u v hu hv.
          let p = carry s hs (chunk_place (counted g) i) 0 u v in
          let t = to_slice u v hu hv 16 (rises (omega arith) ∙ ap (λ (j : ℕ). spot g (section_part g i).low s j) m) in
          let w = within-at g o ranged (section_part g i).low s k u v hs (within u v hu hv) 16 (omega (arith, low-normal)) in
          (t ∙ ap (cell_from g) (sym p), subst (Within g.size) (sym p) w))

      pub up_shut : level_of start + at * 16 + k ≡ 4294967295 → Follows c s k N.Shut
      up_shut h =
          at-end (rw (way_up s even) (up_end start fits (on_axis (normal_at s) (section_part g i).low + k) (omega (arith, low-normal))))

      module _ (last : chunks_on size ≤ at + 1) (inner : level_of start + at * 16 + k ≡ 4294967295 → ⊥) where
        up_off : inside_on start size (stepped g (section_part g i).low s k) ≡ false
        unfolding chunks_on
        up_off =
            let n : size ≤ at * 16 + k + 1 = omega (arith, cut-normal.is) in
            let l : level_of start + (at * 16 + k) < 4294967295 = omega (arith, room, cut-normal.fits, hk) in
            rw (way_up s even) (up_out start fits size (on_axis (normal_at s) (section_part g i).low + k) (omega (arith, low-normal)) (omega (arith, low-normal)))

        pub up_leaves : {n : Next} → n ≡ next_outside (open_in c.scene) → Follows c s k n
        up_leaves = leaves up_off

  -- ---- down

  module _ (odd : s % 2 ≡ 1) where
    pub down_in : 0 < k → Follows c s k (N.At i (k - 1))
    down_in h =
        let e : k - 1 + 1 ≡ k = omega arith in
        in_section (k - 1) (omega (arith, hk))
        (ap (λ (j : ℕ). stepped g (section_part g i).low s j) (sym e)
        ∙ down_from g o ranged (section_part g i).low s (k - 1) odd (omega (arith, low-normal, room, cut-normal.fits, hk)))

    module _ (foot : k ≡ 0) where
      back : Point
      back = behind s hs (chunk_place (counted g) i)

      module _ (h : 0 < at) where
        back_further : further s back ≡ chunk_place (counted g) i
        unfolding back
        back_further = behind_further s hs (chunk_place (counted g) i) h

        back-section : section_at (counted g) back + hop_on (counted g) (normal_at s) ≡ i
        back-section = sym (hop_law s hs back (counted g)) ∙ ap (section_at (counted g)) back_further ∙ section-place (counted g) i

        pub hop_le : {d : ℕ} → d ≡ hop_on (counted g) (normal_at s) → d ≤ i
        hop_le e = omega (arith, back-section)

        from_back : (u v : ℕ) → added (section_part g i).low (facing s k u v) ≡ added (scaled back) (facing s 16 u v)
        unfolding section_part corner
        from_back u v = (λ j. added (scaled (sym back_further j)) (facing s (foot j) u v)) ∙ carry s hs back 0 u v

        at_back : (u v : ℕ) → onward c s k u v ≡ ahead s (cell_from g (added (scaled back) (facing s 16 u v)))
        unfolding cell_in
        at_back u v = ap (λ (d : Point). ahead s (cell_from g d)) (from_back u v)

        pub down_hop : {d : ℕ} → d ≡ hop_on (counted g) (normal_at s) → Follows c s k (N.At (i - d) 15)
        down_hop {d} e =
            in_other back (i - d) 15 (omega arith) (omega (arith, back-section))
            (λ u v hu hv.
            let w : Within g.size (added (scaled back) (facing s 16 u v)) = subst (Within g.size) (from_back u v) (within u v hu hv) in
            let n : on_axis (normal_at s) (scaled back) + 16 < size = within-normal g o ranged (scaled back) s 16 u v hs w in (
              at_back u v
                  ∙ ahead-at g o ranged (scaled back) s 16 u v hs w 15 (down_from g o ranged (scaled back) s 15 odd (omega (arith, room))),
              within-at g o ranged (scaled back) s 16 u v hs w 15 (omega arith),
            ))

      module _ (first : at ≡ 0) where
        pub down_shut : level_of start + at * 16 ≡ 0 → Follows c s k N.Shut
        down_shut h =
            at-end (rw (way_down s odd) (down_end start fits (on_axis (normal_at s) (section_part g i).low + k) (omega (arith, low-normal))))

        module _ (inner : level_of start + at * 16 ≡ 0 → ⊥) where
          down_off : inside_on start size (stepped g (section_part g i).low s k) ≡ false
          down_off = rw (way_down s odd) (down_out start fits size (on_axis (normal_at s) (section_part g i).low + k) (omega (arith, low-normal)) (omega arith))

          pub down_leaves : {n : Next} → n ≡ next_outside (open_in c.scene) → Follows c s k n
          down_leaves = leaves down_off

-- ---- where a section lies, by the code's numbers

pub section_lies : (v : Volume) (i : ℕ) {o d n k : Point} → well_formed v ≡ true → Ranged v.origin → i < sections (shape_of v)
    → o ≡ levels_of v.origin → d ≡ corner (counts_of v.chunks) i → n ≡ cut_at (shape_of v) d → k ≡ counts_of v.chunks
    → SectionLies (shape_of v) i (point_of (o.x + d.x) (o.y + d.y) (o.z + d.z)) n (point_of (d.x / 16) (d.y / 16) (d.z / 16)) k
unfolding shape_of section_part corner added
section_lies v i {d = d} ok r h eo ed en ek =
    let c = formed-counts v ok in
    let e : d ≡ scaled (chunk_place (counted (shape_of v)) i) = ed ∙ ap (λ (k : Point). scaled (chunk_place k i)) c in
    record {
      ranged = r;
      chunk = h;
      chunks = ek ∙ c;
      place = ap (λ (d : Point). point_of (d.x / 16) (d.y / 16) (d.z / 16)) e ∙ points (omega arith) (omega arith) (omega arith);
      low = λ j. point_of ((eo j).x + (e j).x) ((eo j).y + (e j).y) ((eo j).z + (e j).z);
      count = en ∙ ap (cut_at (shape_of v)) e;
    }

-- its corner is no further than its number, so that the sums of its levels fit
pub section_room : (k : Point) (i : ℕ) {d : Point} → d ≡ corner k i → Below (i * 16 + 1) d
unfolding corner chunk_place
section_room k i e =
    rw e
    (record {
      x = let h = corner-x k i in omega arith;
      y = let h = corner-y k i in omega arith;
      z = let h = corner-z k i in omega arith;
    })
