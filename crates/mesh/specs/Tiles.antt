-- For the code: a part as a box of sections, cut short by the size.
use Rattle.std.specs.Prelude.{◌≡◌, List, ℕ, ◌+◌, ◌-◌, ◌*◌, ◌≤◌, ◌<◌, min, get_or, length}
use Rattle.stand.specs.Shape.{Shape, max_chunks, product}
use Rattle.stand.specs.Sides.{second_at}
use Rattle.stand.specs.declared.volume.shape.Point.{Point}
use Rattle.stand.specs.declared.volume.shape.Region.{Region}
use Rattle.mesh.specs.Part.{added, cell_in, depth_of, facing, height_of, on_axis, tiled, width_of}
use Rattle.mesh.specs.Plane.{Filled}
use Rattle.mesh.specs.Scene.{look_in, open_in, shape_in}
use Rattle.mesh.specs.Visible.{shown}
use Rattle.mesh.specs.declared.scene.Part.{Part}

abbrev pub part_of : Part → Region
part_of p = tiled (shape_in p.scene) p.place p.across

-- a part lies in the size
pub record PartIn (g : Shape) (r : Region) : Type 0 where
  pub x : r.low.x + r.count.x ≤ g.size.x
  pub y : r.low.y + r.count.y ≤ g.size.y
  pub z : r.low.z + r.count.z ≤ g.size.z

-- a mask of at least n slots, of which the first n are 0
pub record Cleared (n : ℕ) (mask : List ℕ) : Type 0 where
  pub room : n ≤ length mask
  pub zero : (q : ℕ) → q < n → get_or mask q 0 ≡ 0

-- the slots of a slice of side s
abbrev pub side_slots : Part → ℕ → ℕ
side_slots p s = height_of (part_of p) s * width_of (part_of p) s

-- the visible finishes of slice k of side s
abbrev pub part_shown : Part → ℕ → ℕ → ℕ → ℕ → ℕ
part_shown p s k u v = shown (open_in p.scene) (shape_in p.scene) (look_in p.scene) s (cell_in (shape_in p.scene) (part_of p) s k u v)

-- the mask with them
abbrev pub PartFilled : Part → ℕ → ℕ → List ℕ → List ℕ → ℕ → Type 0
PartFilled p s k m m' r = Filled m m' r 0 (width_of (part_of p) s) (width_of (part_of p) s) (height_of (part_of p) s) (part_shown p s k)

-- ---- the sections of a part

-- the place of the one at d along the normal of side s, a along its first axis, b along its second
unfoldable pub tile_place : Part → ℕ → ℕ → ℕ → ℕ → Point
tile_place p s d a b = added p.place (facing s d a b)

pub record TileIn (p : Part) (s d a b : ℕ) : Type 0 where
  pub few : product p.chunks ≤ max_chunks
  pub x : (tile_place p s d a b).x < p.chunks.x
  pub y : (tile_place p s d a b).y < p.chunks.y
  pub z : (tile_place p s d a b).z < p.chunks.z

-- slice k of side s, of which the bands before b are laid
pub record BandIn (mask : List ℕ) (p : Part) (s k b : ℕ) : Type 0 where
  pub slice : k < depth_of (part_of p) s
  pub band : b < on_axis (second_at s) p.across
  pub room : side_slots p s ≤ length mask
  pub zero : (q : ℕ) → b * 16 * width_of (part_of p) s ≤ q → q < side_slots p s → get_or mask q 0 ≡ 0

-- the visible finishes of band b
abbrev pub band_shown : Part → ℕ → ℕ → ℕ → ℕ → ℕ → ℕ
band_shown p s k b u v = part_shown p s k u (b * 16 + v)

abbrev pub BandFilled : Part → ℕ → ℕ → ℕ → List ℕ → List ℕ → ℕ → Type 0
BandFilled p s k b m m' r =
    Filled m m' r (b * 16 * width_of (part_of p) s) (width_of (part_of p) s) (width_of (part_of p) s) (min 16 (height_of (part_of p) s - b * 16)) (band_shown p s k b)
