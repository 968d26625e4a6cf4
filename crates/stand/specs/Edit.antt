-- Setting a cell: document 01, 'The stand' and refusals 3 to 6.
use Rattle.std.specs.Prelude.{◌≡◌, ℕ, zero, suc, ◌+◌, ◌-◌, ◌/◌, ◌%◌, ◌^◌, ◌<◌, ◌≤◌, Bool, cond, not, ◌&&◌, List, [], ◌∷◌, length, ◌==◌, bit_xor, slice_index, slice_set}
use Rattle.stand.specs.Cells.{is_empty}
use Rattle.stand.specs.Refusal.{◌⇒◌, first, gives, refused}
use Rattle.stand.specs.Shape.{Shape, inside, max_chunks, sections, slot, well_formed}
use Rattle.stand.specs.Storage.{Outcome, State, lengths_of, outcome_of, shape, storage, storage_fits}
use Rattle.stand.specs.Hash.{term_of}
use Rattle.stand.specs.declared.Cell.{Cell}
use Rattle.stand.specs.declared.volume.Volume.{Volume}

-- the last generation
abbrev pub last_generation : ℕ
last_generation = 2 ^ 64 - 1

-- what stands in a cell
unfoldable pub look : Shape → List ℕ → Cell → ℕ
look g cells c = slice_index cells (slot g c)

-- ---- a change of the cell at a storage index

-- a hash with the term of a finish taken in or out: an empty cell has none
unfoldable pub toggled : ℕ → ℕ → ℕ → ℕ
toggled within finish hash = cond (is_empty finish) hash (bit_xor hash (term_of within finish))

unfoldable pub hash_after : ℕ → ℕ → ℕ → ℕ → ℕ
hash_after hash within old new = toggled within new (toggled within old hash)

-- solid moves by 1 between empty and occupied, modulo 2 ^ 64
unfoldable pub solid_after : ℕ → ℕ → ℕ → ℕ
solid_after solid old new =
    cond (is_empty old)
    (cond (is_empty new) solid ((solid + 1) % 2 ^ 64))
    (cond (is_empty new) ((solid + (2 ^ 64 - 1)) % 2 ^ 64) solid)

unfoldable pub advanced : Volume → ℕ → ℕ → Volume
advanced v old new =
    record {
      origin = v.origin;
      chunks = v.chunks;
      size = v.size;
      generation = v.generation + 1;
      solid = solid_after v.solid old new;
    }

-- the cell at storage index i takes finish v: cell, hash, version, log, last change and header
unfoldable pub changed : State → ℕ → ℕ → State
changed s i v =
    record {
      volume = advanced s.volume (slice_index s.cells i) v;
      cells = slice_set s.cells i v;
      hashes = slice_set s.hashes (i / 4096) (hash_after (slice_index s.hashes (i / 4096)) (i % 4096) (slice_index s.cells i) v);
      versions = slice_set s.versions (i / 4096) ((slice_index s.versions (i / 4096) + 1) % 2 ^ 32);
      log = slice_set s.log (s.volume.generation % sections (shape s)) (i / 4096);
      last = slice_set s.last (i / 4096) (s.volume.generation + 1);
    }

-- ---- set: equal finishes write nothing

pub record Edited : Type 0 where
  pub count : ℕ
  pub state : State

abbrev pub edited_of : ℕ → State → Edited
edited_of n s = record { count = n; state = s }

-- one cell, by its storage index; the count is 1 if it changed
unfoldable pub put : State → ℕ → ℕ → Edited
put s i v = cond (slice_index s.cells i == v) (edited_of 0 s) (edited_of 1 (changed s i v))

unfoldable pub set_def : State → Cell → ℕ → Edited
set_def s c v = put s (slot (shape s) c) v

-- what refuses a set, from what a stand and the book both have: is the header well formed, does storage fit, the generation, the finish before
unfoldable pub set_refusal : Bool → Bool → Shape → ℕ → ℕ → Cell → ℕ → ℕ
set_refusal formed fits g generation old c v =
    first
    ((not formed ⇒ 3) ∷ (not fits ⇒ 4) ∷ (not (inside g c) ⇒ 5)
    ∷ (generation == last_generation && not (old == v) ⇒ 6) ∷ [])

-- an edit under a refusal's number, 0 for none: the cells changed, and the state
unfoldable pub edited : ℕ → State → Edited → Outcome ℕ
edited zero s e = outcome_of (gives e.count) e.state
edited (suc n) s e = outcome_of (refused (suc n)) s

unfoldable pub fitting : State → Bool
fitting s = storage_fits (sections (shape s)) (lengths_of (storage s))

-- the answer is 1 for changed, 0 for unchanged
unfoldable pub set_call : State → Cell → ℕ → Outcome ℕ
set_call s c v =
    edited
    (set_refusal (well_formed s.volume) (fitting s) (shape s) s.volume.generation (look (shape s) s.cells c) c v)
    s (set_def s c v)

-- ---- for the code: where a change is safe

pub record Storable (s : State) (i : ℕ) : Type 0 where
  pub cell : i < length s.cells
  pub hash : i / 4096 < length s.hashes
  pub version : i / 4096 < length s.versions
  pub last : i / 4096 < length s.last
  pub ring : length s.log ≡ sections (shape s)
  pub some : 1 ≤ length s.log
  pub few : length s.log ≤ max_chunks
  pub chunk : i / 4096 < max_chunks
