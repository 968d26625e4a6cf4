-- The walk over occupied cells: document 01, 'The stand'; by storage index, slots beyond the size included.
use Rattle.std.specs.Prelude.{ℕ, zero, suc, ◌+◌, ◌-◌, cond, List, length, nat_lt, slice_index}
use Rattle.stand.specs.Cells.{is_empty}
use Rattle.stand.specs.Refusal.{Answer, answer, first, list_rules}
use Rattle.stand.specs.Shape.{Shape, cell_at, shape_of}
use Rattle.stand.specs.declared.Cell.{Cell}
use Rattle.stand.specs.declared.volume.Volume.{Volume}

-- an occupied cell, its finish, and the index after it
pub data Solid : Type 0 where
  solid : Cell → ℕ → ℕ → Solid
  end : Solid

-- the first occupied index from i on, with k left; i + k if there is none
unfoldable pub occupied_from : List ℕ → ℕ → ℕ → ℕ
occupied_from cells i zero = i
occupied_from cells i (suc k) = cond (is_empty (slice_index cells i)) (occupied_from cells (i + 1) k) i

unfoldable pub solid_at : Shape → List ℕ → ℕ → Solid
solid_at g cells j = cond (nat_lt j (length cells)) (solid (cell_at g j) (slice_index cells j) (j + 1)) end

unfoldable pub solids_call : Volume → List ℕ → ℕ → Answer Solid
solids_call v cells i =
    answer (first (list_rules 4096 v (length cells)))
    (solid_at (shape_of v) cells (occupied_from cells i (length cells - i)))
