-- For the code: a section along its axes, and what lies one step on from a slice.
use Rattle.std.specs.Prelude.{ℕ, zero, suc, ◌+◌, ◌*◌, ◌<◌, ◌≤◌, ◌≡◌, Bool, true, false, ◌⊎◌, List, length, get_or, slice_range, cond}
use Rattle.stand.specs.Shape.{inside, sections, slot, within_at}
use Rattle.stand.specs.declared.Axes.{Axes}
use Rattle.stand.specs.declared.Cell.{Cell}
use Rattle.stand.specs.declared.volume.shape.Point.{Point}
use Rattle.stand.specs.declared.volume.shape.Region.{Region}
use Rattle.mesh.specs.Part.{cell_in, depth_of, facing, height_of, on_axis, section_part, width_of}
use Rattle.mesh.specs.Plane.{Filled}
use Rattle.mesh.specs.Scene.{look_in, open_in, shape_in}
use Rattle.mesh.specs.Visible.{ahead, shown}
use Rattle.mesh.specs.declared.part.Next.{Next}
use Rattle.mesh.specs.declared.part.Next.TheVariants as N
use Rattle.mesh.specs.declared.scene.Section.{Section}
use Rattle.mesh.specs.declared.plane.Grid.{Grid}

-- how far apart the indices of neighbouring cells of a section are along axis a
abbrev pub stride_on : ℕ → ℕ
stride_on zero = 1
stride_on (suc zero) = 16
stride_on (suc (suc a)) = 256

-- the same of neighbouring sections
abbrev pub hop_on : Point → ℕ → ℕ
hop_on k zero = 1
hop_on k (suc zero) = k.x
hop_on k (suc (suc a)) = k.x * k.y

-- the steps along a side's axes x, and the cells of count n along first and second
abbrev pub grid_of : Point → Axes → Grid
grid_of n x = record { normal = stride_on x.normal; first = stride_on x.first; second = stride_on x.second; w = on_axis x.first n; h = on_axis x.second n }

-- a section cut short by the size
abbrev pub part_in : Section → Region
part_in c = section_part (shape_in c.scene) c.chunk

-- slice k of side s of a section, and a mask with rows for it that lie pitch apart from slot to on, all 0 before
pub record SliceIn (mask : List ℕ) (c : Section) (s k to pitch : ℕ) : Type 0 where
  pub slice : k < depth_of (part_in c) s
  pub wide : width_of (part_in c) s ≤ pitch
  pub rows : (v : ℕ) → v < height_of (part_in c) s → to + v * pitch + width_of (part_in c) s ≤ length mask
  pub zero : (u v : ℕ) → u < width_of (part_in c) s → v < height_of (part_in c) s → get_or mask (to + v * pitch + u) 0 ≡ 0

-- the visible finishes of a slice
abbrev pub slice_shown : Section → ℕ → ℕ → ℕ → ℕ → ℕ
slice_shown c s k u v = shown (open_in c.scene) (shape_in c.scene) (look_in c.scene) s (cell_in (shape_in c.scene) (part_in c) s k u v)

-- the mask with them
abbrev pub SliceFilled : Section → ℕ → ℕ → ℕ → ℕ → List ℕ → List ℕ → ℕ → Type 0
SliceFilled c s k to pitch m m' r = Filled m m' r to pitch (width_of (part_in c) s) (height_of (part_in c) s) (slice_shown c s k)

-- the cells of section j
abbrev pub section_cells : List ℕ → ℕ → List ℕ
section_cells cells j = slice_range cells (j * 4096) (j * 4096 + 4096)

-- the cell one step on from slot (u, v) of slice k of side s
abbrev pub onward : Section → ℕ → ℕ → ℕ → ℕ → Cell
onward c s k u v = ahead s (cell_in (shape_in c.scene) (part_in c) s k u v)

abbrev pub EachSlot : Section → ℕ → (ℕ → ℕ → Type 0) → Type 0
EachSlot c s P = (u v : ℕ) → u < width_of (part_in c) s → v < height_of (part_in c) s → P u v

-- what next says of the cells one step on from a slice
abbrev pub Follows : Section → ℕ → ℕ → Next → Type 0
Follows c s k (N.At j t) =
    (j < sections (shape_in c.scene)) × (t < 16)
    × EachSlot c s (λ u v. (inside (shape_in c.scene) (onward c s k u v) ≡ true) × (slot (shape_in c.scene) (onward c s k u v) ≡ j * 4096 + within_at (facing s t u v)))
Follows c s k N.Open = EachSlot c s (λ u v. (inside (shape_in c.scene) (onward c s k u v) ≡ false) × (open_in c.scene ≡ true))
Follows c s k N.Shut =
    EachSlot c s (λ u v.
    ((inside (shape_in c.scene) (onward c s k u v) ≡ false) × (open_in c.scene ≡ false)) ⊎ (onward c s k u v ≡ cell_in (shape_in c.scene) (part_in c) s k u v))

-- what lies outside the stand
abbrev pub next_outside : Bool → Next
next_outside b = cond b N.Open N.Shut
