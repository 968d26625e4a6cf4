-- Occupied cells by storage index: document 02, 2.2.
use Rattle.std.specs.Prelude.{ℕ, zero, suc, ◌*◌, ◌/◌, ◌%◌, Bool, cond, List, [], ◌∷◌, eqb, get_or, length, replicate, set}
use Rattle.stand.specs.Cells.{is_empty}
use Rattle.stand.specs.Edit.{toggled}
use Rattle.stand.specs.Hash.{digest_of}
use Rattle.stand.specs.Shape.{Shape, cell_from, counted, inside, sections, spot_at}
use Rattle.stand.specs.Storage.{State, Storage, joined, storage_of, volume_of}

-- an occupied cell: where it is stored, section * 4,096 + index within, and its finish
pub record Entry : Type 0 where
  pub slot : ℕ
  pub finish : ℕ

abbrev pub entry_of : ℕ → ℕ → Entry
entry_of k v = record { slot = k; finish = v }

-- a slot that holds a cell inside the stand
unfoldable pub inside_at : Shape → ℕ → Bool
inside_at g k = inside g (cell_from g (spot_at (counted g) k))

-- what a slot holds, nothing beyond the size
unfoldable pub kept_at : Shape → List ℕ → ℕ → ℕ
kept_at g cells k = cond (inside_at g k) (get_or cells k 0) 0

-- the occupied among m slots from k on, ascending
unfoldable pub entries_from : (ℕ → ℕ) → ℕ → ℕ → List Entry
entries_from look k zero = []
entries_from look k (suc m) = cond (is_empty (look k)) (entries_from look (suc k) m) (entry_of k (look k) ∷ entries_from look (suc k) m)

-- one for each occupied cell inside the stand, ascending by section and index
unfoldable pub entries_of : Shape → List ℕ → List Entry
entries_of g cells = entries_from (kept_at g cells) 0 (sections g * 4096)

-- what the entries put into slot k, 0 for none
unfoldable pub lookup : List Entry → ℕ → ℕ
lookup [] k = 0
lookup (e ∷ es) k = cond (eqb k e.slot) e.finish (lookup es k)

-- ---- a fresh stand filled so

-- cells with the entries put in, one after the other
unfoldable pub placed : List Entry → List ℕ → List ℕ
placed [] cells = cells
placed (e ∷ es) cells = placed es (set cells e.slot e.finish)

-- hashes with the terms of the entries taken in, one after the other
unfoldable pub mixed : List Entry → List ℕ → List ℕ
mixed [] hashes = hashes
mixed (e ∷ es) hashes = mixed es (set hashes (e.slot / 4096) (toggled (e.slot % 4096) e.finish (get_or hashes (e.slot / 4096) 0)))

-- the digest of a fresh stand filled with the entries
unfoldable pub digest_with : Shape → List Entry → ℕ
digest_with g es = digest_of (volume_of g 0 0) (mixed es (replicate (sections g) 0))

-- cells and hashes of the entries, all else 0
unfoldable pub loaded_storage : Shape → List Entry → Storage
loaded_storage g es =
    storage_of (placed es (replicate (sections g * 4096) 0)) (mixed es (replicate (sections g) 0))
    (replicate (sections g) 0) (replicate (sections g) 0) (replicate (sections g) 0)

-- with its header: generation 0, and as many occupied cells as entries
unfoldable pub loaded_state : Shape → List Entry → State
loaded_state g es = joined (volume_of g 0 (length es)) (loaded_storage g es)
