-- The panels of a part, in order: document 01, 'Panels'.
use Rattle.std.specs.Prelude.{ℕ, zero, suc, ◌*◌, ◌/◌, ◌%◌, Bool, List, [], ◌∷◌, ◌++◌, map}
use Rattle.stand.specs.Shape.{Shape}
use Rattle.stand.specs.Storage.{extent_of}
use Rattle.stand.specs.declared.Cell.{Cell}
use Rattle.stand.specs.declared.Face.{Face}
use Rattle.stand.specs.declared.Face.TheVariants.{East, West, Top, Bottom, North, South}
use Rattle.stand.specs.declared.volume.shape.Region.{Region}
use Rattle.mesh.specs.Merge.{Box, Dir, cut_to, limits}
use Rattle.mesh.specs.Part.{cell_in, depth_of, facing, height_of, slice_mask, width_of}
use Rattle.mesh.specs.declared.Quad.{Quad}

-- sides in order; past the last the last
abbrev pub face_of : ℕ → Face
face_of zero = East
face_of (suc zero) = West
face_of (suc (suc zero)) = Top
face_of (suc (suc (suc zero))) = Bottom
face_of (suc (suc (suc (suc zero)))) = North
face_of (suc (suc (suc (suc (suc s))))) = South

-- two faces merge if their finishes are the same: there is no further key
abbrev pub nokey : ℕ → ℕ
nokey q = 0

-- the boxes merged from a mask of h rows of w slots, widened along first, then along second
unfoldable pub boxes_of : ℕ → ℕ → List ℕ → List Box
boxes_of w h m = (cut_to (limits (h ∷ w ∷ [])) nokey m (h * w)).boxes

-- how many steps a box has along direction i, the outermost first
unfoldable pub steps_of : List Dir → ℕ → ℕ
steps_of [] i = 1
steps_of (d ∷ ds) zero = d.count
steps_of (d ∷ ds) (suc i) = steps_of ds i

-- the panel that a box of slice k of side s stands for
unfoldable pub quad_of : Shape → Region → ℕ → ℕ → Box → Quad
quad_of g r s k b =
    record {
      cell = cell_in g r s k (b.start % width_of r s) (b.start / width_of r s);
      face = face_of s;
      voxel = record { 0 = b.value };
      extent = extent_of (facing s 1 (steps_of b.dirs 1) (steps_of b.dirs 0));
    }

module _ (beyond : Bool) (g : Shape) (look : Cell → ℕ) (r : Region) where
  unfoldable pub slice_panels : ℕ → ℕ → List Quad
  slice_panels s k = map (quad_of g r s k) (boxes_of (width_of r s) (height_of r s) (slice_mask beyond g look r s k))

  -- the first n slices of a side, ascending along the normal
  unfoldable pub side_panels : ℕ → ℕ → List Quad
  side_panels s zero = []
  side_panels s (suc n) = side_panels s n ++ slice_panels s n

  -- the first n sides
  unfoldable pub panels_to : ℕ → List Quad
  panels_to zero = []
  panels_to (suc n) = panels_to n ++ side_panels n (depth_of r n)

  unfoldable pub part_panels : List Quad
  part_panels = panels_to 6
