-- Visible faces over a look function, cell to finish: document 01, 'Panels'.
use Rattle.std.specs.Prelude.{ℕ, Bool, true, false, cond, ◌&&◌}
use Rattle.stand.specs.Cells.{is_empty, moved}
use Rattle.stand.specs.Shape.{Shape, inside}
use Rattle.stand.specs.Sides.{step_at}
use Rattle.stand.specs.declared.Cell.{Cell}
use Rattle.mesh.specs.declared.Beyond.{Beyond}
use Rattle.mesh.specs.declared.Beyond.TheVariants as B

-- outside counts as empty
abbrev pub empty_beyond : Beyond → Bool
empty_beyond B.Solid = false
empty_beyond B.Empty = true

-- the cell one step on from c on side s, each coordinate saturating at the i32 ends
unfoldable pub ahead : ℕ → Cell → Cell
ahead s c = moved c (step_at s).x (step_at s).y (step_at s).z

-- cell d lets a face be seen: it is inside and empty, or outside while the rule says so
unfoldable pub clears : Bool → Shape → (Cell → ℕ) → Cell → Bool
clears beyond g look d = cond (inside g d) (is_empty (look d)) beyond

-- the finish of the visible face on side s of cell c, 0 for none
unfoldable pub shown : Bool → Shape → (Cell → ℕ) → ℕ → Cell → ℕ
shown beyond g look s c = cond (inside g c && clears beyond g look (ahead s c)) (look c) 0
