-- The visible finishes of a section's slice laid into a mask: document 01, 'Panels', and 3, 4, 7 and 10 of 'Calls turned back'.
use Rattle.std.specs.Prelude.{Bool, cond, List, [], ◌∷◌, ◌++◌, ℕ, zero, suc, ltb, drop, length}
use Rattle.stand.specs.Edit.{look}
use Rattle.stand.specs.Refusal.{Answer, ◌⇒◌, first, gives, list_rules, refused}
use Rattle.stand.specs.Shape.{Shape, shape_of}
use Rattle.stand.specs.Sides.{side_number}
use Rattle.stand.specs.declared.Cell.{Cell}
use Rattle.stand.specs.declared.Face.{Face}
use Rattle.stand.specs.declared.volume.Volume.{Volume}
use Rattle.stand.specs.declared.volume.shape.Region.{Region}
use Rattle.mesh.specs.Faces.{chunk_rules, wiped}
use Rattle.mesh.specs.Panels.{slice_panels}
use Rattle.mesh.specs.Part.{cell_in, depth_of, height_of, largest_side, section_part, slice_mask, width_of}
use Rattle.mesh.specs.declared.Quad.{Quad}
use Rattle.mesh.specs.declared.slice.Slice.{Slice}

-- slice k of side f of a part; past the depth one without slots, at the lowest cell
unfoldable pub slice_of : Shape → Region → Face → ℕ → Slice
slice_of g r f k =
    cond (ltb k (depth_of r (side_number f)))
    (record { cell = cell_in g r (side_number f) k 0 0; face = f; width = width_of r (side_number f); height = height_of r (side_number f) })
    (record { cell = cell_in g r (side_number f) 0 0 0; face = f; width = 0; height = 0 })

-- xs over the first slots of a mask
unfoldable pub over : List ℕ → List ℕ → List ℕ
over xs m = xs ++ drop (length xs) m

module _ (beyond : Bool) (g : Shape) (look : Cell → ℕ) (r : Region) (s k : ℕ) where
  -- past the depth nothing is laid
  unfoldable pub laid_mask : List ℕ → List ℕ
  laid_mask m = cond (ltb k (depth_of r s)) (over (slice_mask beyond g look r s k) m) m

  unfoldable pub laid_panels : List Quad
  laid_panels = cond (ltb k (depth_of r s)) (slice_panels beyond g look r s k) []

pub record Sliced : Type 0 where
  pub answer : Answer Slice
  pub mask : List ℕ

abbrev pub sliced_of : Answer Slice → List ℕ → Sliced
sliced_of a m = record { answer = a; mask = m }

-- under a refusal's number, 0 for none
unfoldable pub sliced : ℕ → Slice → List ℕ → List ℕ → Sliced
sliced zero s m m' = sliced_of (gives s) m'
sliced (suc n) s m m' = sliced_of (refused (suc n)) m

-- accepted, the slots that 10 wants are 0 but for the slice's; refused, the mask is kept
unfoldable pub slice_call : Volume → List ℕ → ℕ → Face → ℕ → Bool → List ℕ → Sliced
slice_call v cells i f k beyond m =
    sliced
    (first (list_rules 4096 v (length cells) ++ (chunk_rules v i ++ (ltb (length m) (largest_side (section_part (shape_of v) i)) ⇒ 10) ∷ [])))
    (slice_of (shape_of v) (section_part (shape_of v) i) f k)
    m
    (laid_mask beyond (shape_of v) (look (shape_of v) cells) (section_part (shape_of v) i) (side_number f) k (wiped (largest_side (section_part (shape_of v) i)) m))
