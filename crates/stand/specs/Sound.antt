-- What opening gives and set and fill keep: document 01, 'The stand', solid and hash.
use Rattle.std.specs.Prelude.{◌≡◌, ℕ, zero, suc, ◌+◌, ◌*◌, ◌%◌, ◌^◌, ◌<◌, true, false, cond, List, length, slice_index}
use Rattle.stand.specs.Cells.{is_empty}
use Rattle.stand.specs.Edit.{fitting, toggled}
use Rattle.stand.specs.Shape.{cell_from, counted, inside, sections, spot_at, well_formed}
use Rattle.stand.specs.Storage.{State, shape}

-- how many of the first n cells are occupied
unfoldable pub occupied : List ℕ → ℕ → ℕ
occupied cells zero = 0
occupied cells (suc n) = occupied cells n + cond (is_empty (slice_index cells n)) 0 1

-- the XOR of the terms of the first n cells of section i
unfoldable pub terms_of : List ℕ → ℕ → ℕ → ℕ
terms_of cells i zero = 0
terms_of cells i (suc n) = toggled n (slice_index cells (i * 4096 + n)) (terms_of cells i n)

-- header and storage fit; solid counts the occupied cells; slots beyond the size are empty; hashes are those of the cells
pub record Sound (s : State) : Type 0 where
  pub formed : well_formed s.volume ≡ true
  pub fits : fitting s ≡ true
  pub solid : s.volume.solid ≡ occupied s.cells (length s.cells) % 2 ^ 64
  pub beyond : (i : ℕ) → inside (shape s) (cell_from (shape s) (spot_at (counted (shape s)) i)) ≡ false → slice_index s.cells i ≡ 0
  pub hash : (i : ℕ) → i < sections (shape s) → slice_index s.hashes i ≡ terms_of s.cells i 4096
