-- The faces of a panel, and the visible faces of a part: document 01, 'Panels' and 'The book behind the sums'.
use Rattle.std.specs.Prelude.{ℕ, zero, suc, ◌+◌, ◌*◌, Bool, cond, ◌&&◌, List, [], ◌∷◌, eqb}
use Rattle.stand.specs.Cells.{is_empty}
use Rattle.stand.specs.Shape.{Shape, counts_of, inside, product}
use Rattle.stand.specs.Sides.{side_number}
use Rattle.stand.specs.declared.Cell.{Cell}
use Rattle.stand.specs.declared.Face.{Face}
use Rattle.stand.specs.declared.volume.shape.Region.{Region}
use Rattle.mesh.specs.Part.{depth_of, height_of, slot_shown, width_of}
use Rattle.mesh.specs.declared.Quad.{Quad}

-- ---- panels

-- each of the list is so
abbrev pub Each : {A : Type 0} → (A → Type 0) → List A → Type 0
Each P [] = Unit {0}
Each P (x ∷ xs) = P x × Each P xs

-- the panel has the face on side f of cell c: it lies on that side,
-- and c's exact distance from the panel's cell is 0 to extent - 1 on each axis
unfoldable pub covers : Quad → Face → Cell → Bool
covers q f c = eqb (side_number q.face) (side_number f) && inside (record { origin = q.cell; size = counts_of q.extent }) c

-- how many panels of the list have that face
unfoldable pub cover_count : List Quad → Face → Cell → ℕ
cover_count [] f c = 0
cover_count (q ∷ qs) f c = cond (covers q f c) 1 0 + cover_count qs f c

-- the faces of the panels: their extents' products summed
unfoldable pub face_sum : List Quad → ℕ
face_sum [] = 0
face_sum (q ∷ qs) = product (counts_of q.extent) + face_sum qs

-- ---- visible faces

-- 1 for a finish, 0 for none
unfoldable pub seen : ℕ → ℕ
seen x = cond (is_empty x) 0 1

-- f 0 + .. + f (n - 1)
unfoldable pub sum_to : (ℕ → ℕ) → ℕ → ℕ
sum_to f zero = 0
sum_to f (suc n) = sum_to f n + f n

module _ (beyond : Bool) (g : Shape) (look : Cell → ℕ) (r : Region) where
  -- the visible faces of slice k of side s
  unfoldable pub faces_on : ℕ → ℕ → ℕ
  faces_on s k = sum_to (λ q. seen (slot_shown beyond g look r s k q)) (height_of r s * width_of r s)

  -- of all slices of the six sides
  unfoldable pub faces_in : ℕ
  faces_in = sum_to (λ s. sum_to (faces_on s) (depth_of r s)) 6
