-- How much of the lists a call is lent: document 01, 'Trial program' (at most 4 sections, else 4).
use Rattle.std.specs.Prelude.{ℕ, ◌*◌, ◌≤◌, Bool, cond, ◌&&◌, List, leb}
use Rattle.stand.specs.Opening.{header_call}
use Rattle.stand.specs.Read.{of_header}
use Rattle.stand.specs.Refusal.{Answer, gives, refused}
use Rattle.stand.specs.Shape.{sections, shape_of}
use Rattle.stand.specs.Storage.{Storage, storage_of}
use Rattle.stand.specs.declared.Cell.{Cell}
use Rattle.stand.specs.declared.volume.Extent.{Extent}
use Rattle.stand.specs.declared.volume.Volume.{Volume}

-- the lists: a stand's storage, the rates by finish, a mask and a sheet
pub record Lists : Type 0 where
  pub storage : Storage
  pub rates : List ℕ
  pub mask : List ℕ
  pub sheet : List ℕ

abbrev pub lists_of : List ℕ → List ℕ → List ℕ → List ℕ → List ℕ → List ℕ → List ℕ → List ℕ → Lists
lists_of cells hashes versions log last rates mask sheet =
    record { storage = storage_of cells hashes versions log last; rates = rates; mask = mask; sheet = sheet }

-- a number, 0 where there is none
abbrev pub value_of : Answer ℕ → ℕ
value_of (gives n) = n
value_of (refused n) = 0

-- the sections of a stand, none before the first opening
unfoldable pub chunks_of : Volume → ℕ
chunks_of v = value_of (of_header v (sections (shape_of v)))

-- the sections that an opening asks for, none where 1 or 2 refuses it
abbrev pub chunks_in : Answer Volume → ℕ
chunks_in (gives v) = chunks_of v
chunks_in (refused n) = 0

unfoldable pub wanted_of : Cell → Extent → ℕ
wanted_of o s = chunks_in (header_call o s)

-- room for n sections, which are at most 4
pub record Lengths : Type 0 where
  pub cells : ℕ
  pub hashes : ℕ
  pub versions : ℕ
  pub log : ℕ
  pub last : ℕ
  pub sheet : ℕ

abbrev pub lengths_at : ℕ → ℕ → ℕ → ℕ → ℕ → ℕ → Lengths
lengths_at cells hashes versions log last sheet =
    record { cells = cells; hashes = hashes; versions = versions; log = log; last = last; sheet = sheet }

unfoldable pub room_for : ℕ → Lengths → Bool
room_for n l =
    leb n 4
    && (leb (n * 4096) l.cells && (leb n l.hashes && (leb n l.versions && (leb n l.log && (leb n l.last && leb (n * 3) l.sheet)))))

-- the sections lent: without room none, and storage of length 0 is refused by 4
unfoldable pub lent_of : ℕ → Lengths → ℕ
lent_of n l = cond (room_for n l) n 0

-- for the code: n sections lie within the lists
pub record Room (n : ℕ) (l : Lengths) : Type 0 where
  pub few : n ≤ 4
  pub cells : n * 4096 ≤ l.cells
  pub hashes : n ≤ l.hashes
  pub versions : n ≤ l.versions
  pub log : n ≤ l.log
  pub last : n ≤ l.last
  pub sheet : n * 3 ≤ l.sheet
