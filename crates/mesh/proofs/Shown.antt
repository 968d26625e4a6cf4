-- The mask of one slice: what each slot takes, and what the fill of a plane makes of it.
use mathlib.Core.Path.{◌≡◌, refl, sym, ap, ◌∙◌}
use Rattle.std.specs.Prelude.{Some, None}
use mathlib.Core.Bool.{Bool, true, false, cond}
use mathlib.Core.List.{List}
use mathlib.Core.Logic.{◌⊎◌, inl, inr}
use Prim.Native.Nat.{ℕ, zero, suc, ◌+◌, ◌-◌, ◌*◌, ◌<◌, ◌≤◌}
use native.Mathlib.Omega.{arith}
use borrow.Author.Tests.{ne_eqb}
use lib.ListN.{drop, get_or, length, length-drop}
use lib.Seq.{get_or-drop, get_or-take, length-take-le}
use Rattle.stand.specs.Cells.{is_empty}
use Rattle.stand.specs.Edit.{look}
use Rattle.stand.specs.Shape.{Shape, inside, sections, slot, within_at}
use Rattle.stand.specs.Sides.{axes_at, first_at, normal_at, second_at}
use Rattle.stand.specs.declared.Cell.{Cell}
use Rattle.mesh.specs.Part.{cell_in, depth_of, facing, height_of, on_axis, width_of}
use Rattle.mesh.specs.Plane.{Filled, MaskIn, PlaneIn, plane_shown, seen_at}
use Rattle.mesh.specs.Scene.{open_in, shape_in}
use Rattle.mesh.specs.Step.{Follows, SliceFilled, SliceIn, grid_of, onward, part_in, section_cells, slice_shown, stride_on}
use Rattle.mesh.specs.Visible.{clears, shown}
use Rattle.mesh.specs.declared.part.Next.TheVariants as N
use Rattle.mesh.specs.declared.axes.Side.{Side}
use Rattle.mesh.specs.declared.plane.Grid.{Grid}
use Rattle.mesh.specs.declared.plane.Line.{Line}
use Rattle.mesh.specs.declared.scene.Section.{Section}
use Rattle.mesh.proofs.Laid.{filled_as}
use Rattle.mesh.proofs.Parts.{facing_sixteen, section-inside, section-slot, within-facing, within-lt}
use Rattle.mesh.proofs.Step.{extents, narrow}

-- ---- what a slot of the mask takes

-- the index within a section of slot (u, v) of slice t of side s
abbrev inner : ℕ → ℕ → ℕ → ℕ → ℕ
inner s t u v = t * stride_on (normal_at s) + v * stride_on (second_at s) + u * stride_on (first_at s)

module _ (c : Section) (s k : ℕ) (hs : s < 6) (hk : k < depth_of (part_in c) s) where
  abbrev g : Shape
  g = shape_in c.scene

  abbrev i : ℕ
  i = c.chunk

  abbrev cells : List ℕ
  cells = c.scene.stand.cells.now

  abbrev beyond : Bool
  beyond = open_in c.scene

  module _ (u v : ℕ) (hu : u < width_of (part_in c) s) (hv : v < height_of (part_in c) s) where
    abbrev cell : Cell
    cell = cell_in g (part_in c) s k u v

    in_it : inside g cell ≡ true
    in_it = section-inside g i s k u v c.lies.chunk hs hk hu hv

    pub look_is : look g cells cell ≡ get_or cells (i * 4096 + inner s k u v) 0
    unfolding look
    look_is =
        ap (λ (m : ℕ). get_or cells m 0)
        (section-slot g i s k u v c.lies.chunk hs hk hu hv ∙ ap (λ (m : ℕ). i * 4096 + m) (within-facing s k u v hs))

    look-next : (j t : ℕ) → slot g (onward c s k u v) ≡ j * 4096 + within_at (facing s t u v) → look g cells (onward c s k u v) ≡ get_or cells (j * 4096 + inner s t u v) 0
    unfolding look
    look-next j t p = ap (λ (m : ℕ). get_or cells m 0) (p ∙ ap (λ (m : ℕ). j * 4096 + m) (within-facing s t u v hs))

    pub shown-next : (j t : ℕ) → inside g (onward c s k u v) ≡ true → slot g (onward c s k u v) ≡ j * 4096 + within_at (facing s t u v)
        → cond (is_empty (get_or cells (j * 4096 + inner s t u v) 0)) (get_or cells (i * 4096 + inner s k u v) 0) 0 ≡ slice_shown c s k u v
    unfolding shown clears
    shown-next j t e p = (λ m. cond (is_empty (sym (look-next j t p) m)) (sym look_is m) 0) ∙ rw (in_it, e)

    pub shown_open : inside g (onward c s k u v) ≡ false → beyond ≡ true → get_or cells (i * 4096 + inner s k u v) 0 ≡ slice_shown c s k u v
    unfolding shown clears
    shown_open e b = sym look_is ∙ rw (in_it, e, b)

    pub shown_shut : ((inside g (onward c s k u v) ≡ false) × (beyond ≡ false)) ⊎ (onward c s k u v ≡ cell) → slice_shown c s k u v ≡ 0
    unfolding shown clears
    shown_shut (inl e) = rw (in_it, e.0, e.1)
    shown_shut (inr e) = rw (e, in_it) (same (look g cells cell))
      where
        same : (x : ℕ) → cond (is_empty x) x 0 ≡ 0
        same zero = refl
        same (suc x) = rw (ne_eqb (suc x) 0 (λ h. omega arith))

-- ---- the fill of a slice

module _ (cells : List ℕ) (n j : ℕ) (e : length cells ≡ n * 4096) (h : j < n) where
  pub section-length : length (section_cells cells j) ≡ 4096
  section-length = length-take-le (j * 4096 + 4096 - j * 4096) (drop (j * 4096) cells) (simp length-drop (omega arith)) ∙ omega arith

  section-at : (m : ℕ) → m < 4096 → get_or (section_cells cells j) m 0 ≡ get_or cells (j * 4096 + m) 0
  section-at m l = get_or-take (j * 4096 + 4096 - j * 4096) (drop (j * 4096) cells) m 0 (omega arith) ∙ get_or-drop (j * 4096) cells m 0

inner_lt : (s t u v : ℕ) → s < 6 → t < 16 → u < 16 → v < 16 → inner s t u v < 4096
inner_lt s t u v h a b d = omega (arith, within-facing s t u v h, within-lt (facing s t u v) (facing_sixteen s t u v h a b d))

-- the code's numbers: width, height, and the steps along the three axes
pub record Steps (c : Section) (s : ℕ) (g : Grid) : Type 0 where
  pub width : g.w ≡ width_of (part_in c) s
  pub height : g.h ≡ height_of (part_in c) s
  pub normal : g.normal ≡ stride_on (normal_at s)
  pub first : g.first ≡ stride_on (first_at s)
  pub second : g.second ≡ stride_on (second_at s)

pub steps_are : (c : Section) (t : Side) {r : Grid} → r ≡ grid_of c.count t.axes → Steps c t.number r
unfolding axes_at width_of height_of
steps_are c t r =
    let e = t.read in
    record {
      width = (λ j. (r j).w) ∙ (λ j. on_axis (e j).first (c.lies.count j));
      height = (λ j. (r j).h) ∙ (λ j. on_axis (e j).second (c.lies.count j));
      normal = (λ j. (r j).normal) ∙ (λ j. stride_on (e j).normal);
      first = (λ j. (r j).first) ∙ (λ j. stride_on (e j).first);
      second = (λ j. (r j).second) ∙ (λ j. stride_on (e j).second);
    }

stride_le : (a : ℕ) → stride_on a ≤ 256
stride_le zero = omega arith
stride_le (suc zero) = omega arith
stride_le (suc (suc a)) = omega arith

-- line l begins slice t of section j
pub record Begins (cells : List ℕ) (r : Grid) (j t : ℕ) (l : Line) : Type 0 where
  pub cells_are : l.cells.now ≡ section_cells cells j
  pub at_is : l.at ≡ t * r.normal

module _ {mask : List ℕ} {c : Section} {s k to pitch : ℕ} (hs : s < 6) (q : SliceIn mask c s k to pitch) {r : Grid} (e : Steps c s r) where
  abbrev shape : Shape
  shape = shape_in c.scene

  abbrev stored : List ℕ
  stored = c.scene.stand.cells.now

  pub slice-lt : k < 16
  slice-lt = omega (arith, (extents c s k hs q.slice).depth, q.slice)

  pub start-lt : {t : ℕ} → t < 16 → t * r.normal < 4096
  start-lt {t} m = rw e.normal (omega (arith, inner_lt s t 0 0 hs m (omega arith) (omega arith)))

  pub near : (r.w ≤ 16) × (r.first ≤ 256)
  near = (rw e.width (extents c s k hs q.slice).width, rw e.first (stride_le (first_at s)))

  -- a plane of section j
  pub plane_in : {j t : ℕ} {l : Line} → j < sections shape → t < 16 → Begins stored r j t l → PlaneIn l r
  plane_in {j} {t} {l} h m b =
      record {
        room = λ u v hu hv.
            let n = narrow c s k hs q.slice u v (omega (arith, e.width)) (omega (arith, e.height)) in
            rw (b.cells_are, b.at_is, e.normal, e.first, e.second, section-length stored (sections shape) j c.scene.stand.fits h) (inner_lt s t u v hs m n.0 n.1);
        start = λ v hv.
            let n = narrow c s k hs q.slice 0 v (extents c s k hs q.slice).wide (omega (arith, e.height)) in
            rw (b.at_is, e.normal, e.second) (omega (arith, inner_lt s t 0 v hs m (omega arith) n.1));
      }

  pub mask_in : MaskIn to pitch r.w r.h (length mask)
  mask_in = rw (e.width, e.height) (record { apart = q.wide; room = q.rows })

  seen-at : {j t : ℕ} {l : Line} → j < sections shape → t < 16 → Begins stored r j t l → (u v : ℕ) → u < width_of (part_in c) s → v < height_of (part_in c) s
      → get_or l.cells.now (l.at + v * r.second + u * r.first) 0 ≡ get_or stored (j * 4096 + inner s t u v) 0
  seen-at {j} {t} h m b u v hu hv =
      let n = narrow c s k hs q.slice u v hu hv in
      rw (b.cells_are, b.at_is, e.normal, e.first, e.second) (section-at stored (sections shape) j c.scene.stand.fits h (inner s t u v) (inner_lt s t u v hs m n.0 n.1))

  pub filled_next : {here next : Line} {m' : List ℕ} {a j t : ℕ} → Begins stored r c.chunk k here → Follows c s k (N.At j t) → Begins stored r j t next
      → Filled mask m' a to pitch r.w r.h (plane_shown here (Some next) r) → SliceFilled c s k to pitch mask m' a
  unfolding seen_at
  filled_next {j = j} {t = t} b f n l =
      filled_as (λ u v hu hv.
      (λ x. cond (is_empty (seen-at f.0 f.1 n u v hu hv x)) (seen-at c.lies.chunk slice-lt b u v hu hv x) 0)
      ∙ (let o = f.2 u v hu hv in shown-next c s k hs q.slice u v hu hv j t o.0 o.1))
      (rw (e.width, e.height) at l)

  pub filled_open : {here : Line} {m' : List ℕ} {a : ℕ} → Begins stored r c.chunk k here → Follows c s k N.Open
      → Filled mask m' a to pitch r.w r.h (plane_shown here None r) → SliceFilled c s k to pitch mask m' a
  filled_open b f l =
      filled_as (λ u v hu hv.
      seen-at c.lies.chunk slice-lt b u v hu hv
      ∙ (let o = f u v hu hv in shown_open c s k hs q.slice u v hu hv o.0 o.1))
      (rw (e.width, e.height) at l)

-- what is hidden leaves the mask as it was
pub filled_shut : {mask : List ℕ} {c : Section} {s k to pitch : ℕ} → s < 6 → SliceIn mask c s k to pitch → {a : ℕ} → Follows c s k N.Shut → SliceFilled c s k to pitch mask mask a
filled_shut {c = c} {s} {k} hs q f =
    record {
      mask = record {
        same = refl;
        laid = λ u v hu hv. q.zero u v hu hv ∙ sym (shown_shut c s k hs q.slice u v hu hv (f u v hu hv));
        kept = λ _ _. refl;
      };
      quiet = λ _ u v hu hv. shown_shut c s k hs q.slice u v hu hv (f u v hu hv);
    }
