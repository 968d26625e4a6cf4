-- What keeping a stand in a file promises: document 02, 2.2. `keeping` proves it, of the definitions that the contracts cite.
use Rattle.std.specs.Prelude.{ℕ, ◌+◌, ◌-◌, ◌*◌, ◌<◌, ◌≤◌, ◌≡◌, true, false, List, [], ◌∷◌, ◌++◌, drop, get_or, length, replicate, take}
use Rattle.arith.specs.Bytes.{Bytes, double_at}
use Rattle.stand.specs.Edit.{look, set_call}
use Rattle.stand.specs.Hash.{digest_of}
use Rattle.stand.specs.Opening.{Opening}
use Rattle.stand.specs.Read.{digest_call}
use Rattle.stand.specs.Refusal.{gives, refused}
use Rattle.stand.specs.Shape.{Ranged, cell_from, counted, inside, sections, shape_of, spot_at, well_formed}
use Rattle.stand.specs.Sound.{Sound, occupied, terms_of}
use Rattle.stand.specs.Storage.{State, Storage, fresh_state, joined, lengths_of, shape, storage_fits, volume_of}
use Rattle.stand.specs.declared.Cell.{Cell}
use Rattle.stand.specs.declared.volume.Volume.{Volume}
use Rattle.form.specs.Calls.{load_call, load_refusal, store_call, stored_form, stored_header, stored_length, storing_of}
use Rattle.form.specs.Entries.{Entry, entries_of, inside_at}
use Rattle.form.specs.Form.{cell_length, end_length, entries_in, head_length, head_shape}

-- what a stand is stored from: a header that 3 passes and cells that 4 passes; i32 and u16 are the types'
pub record Storable (v : Volume) (cells : List ℕ) : Type 0 where
  pub formed : well_formed v ≡ true
  pub fits : length cells ≡ sections (shape_of v) * 4096
  pub ranged : Ranged v.origin
  pub finishes : (j : ℕ) → get_or cells j 0 < 65536

-- equal origin, size and finishes of all cells inside; generation, solid and slots beyond the size are not asked
pub record Same (v : Volume) (xs : List ℕ) (w : Volume) (ys : List ℕ) : Type 0 where
  pub origin : v.origin ≡ w.origin
  pub size : v.size ≡ w.size
  pub cells : (c : Cell) → inside (shape_of v) c ≡ true → look (shape_of v) xs c ≡ look (shape_of w) ys c

-- what loading its form leaves of a stand: generation, versions, log, last changes and all other cell slots 0, solid and hashes those of its cells
pub record Restored (v : Volume) (cells : List ℕ) (r : Opening) : Type 0 where
  pub header : r.answer ≡ gives (volume_of (shape_of v) 0 (occupied r.storage.cells (sections (shape_of v) * 4096)))
  pub fits : storage_fits (sections (shape_of v)) (lengths_of r.storage) ≡ true
  pub cells-inside : (c : Cell) → inside (shape_of v) c ≡ true → look (shape_of v) r.storage.cells c ≡ look (shape_of v) cells c
  pub others : (j : ℕ) → inside_at (shape_of v) j ≡ false → get_or r.storage.cells j 0 ≡ 0
  pub hashes : (i : ℕ) → i < sections (shape_of v) → get_or r.storage.hashes i 0 ≡ terms_of r.storage.cells i 4096
  pub versions : r.storage.versions ≡ replicate (sections (shape_of v)) 0
  pub log : r.storage.log ≡ replicate (sections (shape_of v)) 0
  pub last : r.storage.last ≡ replicate (sections (shape_of v)) 0

-- a stand after a set for each entry
unfoldable pub filled : State → List Entry → State
filled s [] = s
filled s (e ∷ es) = filled (set_call s (cell_from (shape s) (spot_at (counted (shape s)) e.slot)) e.finish).state es

-- a fresh stand of the form's origin and size, filled with its cells by sets
abbrev pub filled_from : List ℕ → State
filled_from f = filled (fresh_state (head_shape f)) (entries_in f)

-- two stands that differ at most in generation, versions, log and last changes
pub record Alike (s t : State) : Type 0 where
  pub origin : s.volume.origin ≡ t.volume.origin
  pub chunks : s.volume.chunks ≡ t.volume.chunks
  pub size : s.volume.size ≡ t.volume.size
  pub solid : s.volume.solid ≡ t.volume.solid
  pub cells : s.cells ≡ t.cells
  pub hashes : s.hashes ≡ t.hashes

-- the digest that a form ends with
abbrev pub last_digest : List ℕ → ℕ
last_digest f = double_at f (length f - 8)

-- a load of f on storage s is accepted, and answers v
abbrev pub Loaded : Storage → List ℕ → Volume → Type 0
Loaded s f v = (load_call s f).answer ≡ gives v

pub record Keeping : Type 0 where
  -- ---- storing

  -- a stand is stored in every output that is long enough, whatever its generation and solid and the slots beyond its size hold; bytes after the form keep
  pub stored : (v : Volume) (cells out : List ℕ) → Storable v cells → length (stored_form v cells) ≤ length out
      → store_call v cells out ≡ storing_of (gives (length (stored_form v cells))) (stored_form v cells ++ drop (length (stored_form v cells)) out)
  -- and in no shorter one
  pub short : (v : Volume) (cells out : List ℕ) → Storable v cells → length out < length (stored_form v cells) → store_call v cells out ≡ storing_of (refused 15) out
  -- how long that is can be asked first
  pub length-first : (v : Volume) (cells : List ℕ) → Storable v cells → stored_length v cells ≡ gives (length (stored_form v cells))
  -- ---- stored, then loaded

  -- the stand comes back, on storage with any contents
  pub store-load : (v : Volume) (cells : List ℕ) → Storable v cells → (s : Storage) → storage_fits (sections (shape_of v)) (lengths_of s) ≡ true
      → Restored v cells (load_call s (stored_form v cells))
  -- an output holds the form in its first bytes, as many as storing answers
  pub first-bytes : (v : Volume) (cells out : List ℕ) (n : ℕ) → (store_call v cells out).answer ≡ gives n → take n (store_call v cells out).out ≡ stored_form v cells
  -- ---- loaded, then stored

  -- the bytes come back
  pub load_store : (s : Storage) (f : List ℕ) (v : Volume) → Bytes f → Loaded s f v → (out : List ℕ) → length f ≤ length out
      → store_call v (load_call s f).storage.cells out ≡ storing_of (gives (length f)) (f ++ drop (length f) out)
  -- ---- equal bytes

  -- equal origin, size and cells inside mean equal bytes
  pub same_bytes : (v w : Volume) (xs ys : List ℕ) → Same v xs w ys → stored_form v xs ≡ stored_form w ys
  -- and only then
  pub same-stand : (v w : Volume) (xs ys : List ℕ) → Storable v xs → Storable w ys → stored_form v xs ≡ stored_form w ys → Same v xs w ys
  -- ---- what loading accepts

  -- is what storing writes for some stand: the one loaded
  pub only_stored : (s : Storage) (f : List ℕ) (v : Volume) → Bytes f → Loaded s f v
      → Storable v (load_call s f).storage.cells × (stored_form v (load_call s f).storage.cells ≡ f)
  -- and all of that
  pub all-stored : (v : Volume) (cells : List ℕ) → Storable v cells → (s : Storage) → storage_fits (sections (shape_of v)) (lengths_of s) ≡ true
      → load_refusal (stored_form v cells) (lengths_of s) ≡ 0
  -- ---- a loaded stand

  -- is sound
  pub loaded_sound : (s : Storage) (f : List ℕ) (v : Volume) → Bytes f → Loaded s f v → Sound (joined v (load_call s f).storage)
  -- and is a fresh one filled by sets, each of which changed its cell, but for generation, versions, log and last changes
  pub loaded-filled : (s : Storage) (f : List ℕ) (v : Volume) → Bytes f → Loaded s f v
      → Alike (joined v (load_call s f).storage) (filled_from f) × ((filled_from f).volume.generation ≡ length (entries_in f))
  -- ---- the digest

  -- of a form is that of a fresh stand filled so
  pub digest-filled : (s : Storage) (f : List ℕ) (v : Volume) → Bytes f → Loaded s f v
      → last_digest f ≡ digest_of (filled_from f).volume (filled_from f).hashes
  -- and of a sound stand's form what `digest` answers
  pub digest_sound : (s : State) → Sound s → Storable s.volume s.cells → digest_call s.volume s.hashes ≡ gives (last_digest (stored_form s.volume s.cells))
  -- ---- the calls beside each other

  -- on storage that fits, loading answers what `stored_header` does
  pub header-first : (s : Storage) (f : List ℕ) → storage_fits (sections (head_shape f)) (lengths_of s) ≡ true → (load_call s f).answer ≡ stored_header f
  -- and the header answered is of the form's shape, so that its sections say what to lend
  pub header-shape : (f : List ℕ) (v : Volume) → stored_header f ≡ gives v → shape_of v ≡ head_shape f
  -- a form has 34 bytes, and 7 for each occupied cell inside
  pub form-length : (v : Volume) (cells : List ℕ) → length (stored_form v cells) ≡ head_length + end_length + length (entries_of (shape_of v) cells) * cell_length
  -- refused, nothing is written
  pub load-refused : (s : Storage) (f : List ℕ) (n : ℕ) → (load_call s f).answer ≡ refused n → (load_call s f).storage ≡ s
  pub store-refused : (v : Volume) (cells out : List ℕ) (n : ℕ) → (store_call v cells out).answer ≡ refused n → (store_call v cells out).out ≡ out
