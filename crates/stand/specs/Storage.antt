-- What a stand holds: document 01, 'The stand', header and storage.
use Rattle.std.specs.Prelude.{ℕ, ◌*◌, Bool, not, ◌&&◌, List, [], ◌∷◌, length, replicate, pos, ◌==◌}
use Rattle.stand.specs.Refusal.{Answer, Rule, ◌⇒◌}
use Rattle.stand.specs.Shape.{Shape, counted, sections, shape_of, well_formed}
use Rattle.stand.specs.declared.volume.Extent.{Extent}
use Rattle.stand.specs.declared.volume.Volume.{Volume}
use Rattle.stand.specs.declared.volume.shape.Point.{Point}

pub record State : Type 0 where
  pub volume : Volume
  pub cells : List ℕ
  pub hashes : List ℕ
  pub versions : List ℕ
  pub log : List ℕ
  pub last : List ℕ

abbrev pub state_of : Volume → List ℕ → List ℕ → List ℕ → List ℕ → List ℕ → State
state_of v cells hashes versions log last =
    record { volume = v; cells = cells; hashes = hashes; versions = versions; log = log; last = last }

-- the shape of a state
abbrev pub shape : State → Shape
shape s = shape_of s.volume

-- the five lists alone
pub record Storage : Type 0 where
  pub cells : List ℕ
  pub hashes : List ℕ
  pub versions : List ℕ
  pub log : List ℕ
  pub last : List ℕ

abbrev pub storage_of : List ℕ → List ℕ → List ℕ → List ℕ → List ℕ → Storage
storage_of cells hashes versions log last =
    record { cells = cells; hashes = hashes; versions = versions; log = log; last = last }

abbrev pub storage : State → Storage
storage s = storage_of s.cells s.hashes s.versions s.log s.last

-- their lengths
pub record Lengths : Type 0 where
  pub cells : ℕ
  pub hashes : ℕ
  pub versions : ℕ
  pub log : ℕ
  pub last : ℕ

abbrev pub lengths_of : Storage → Lengths
lengths_of s =
    record {
      cells = length s.cells;
      hashes = length s.hashes;
      versions = length s.versions;
      log = length s.log;
      last = length s.last;
    }

-- storage for n sections: 4,096 cells each, and one of each other list
unfoldable pub storage_fits : ℕ → Lengths → Bool
storage_fits n l = l.cells == n * 4096 && (l.hashes == n && (l.versions == n && (l.log == n && l.last == n)))

-- refusals of a call that is given a header and storage of these lengths
abbrev pub storage_rules : Volume → Lengths → List Rule
storage_rules v l = (not (well_formed v) ⇒ 3) ∷ (not (storage_fits (sections (shape_of v)) l) ⇒ 4) ∷ []

-- ---- what a call that writes comes to: its answer, and the state after it

pub record Outcome (A : Type 0) : Type 0 where
  pub answer : Answer A
  pub state : State

abbrev pub outcome_of : {A : Type 0} → Answer A → State → Outcome A
outcome_of a s = record { answer = a; state = s }

-- ---- a state just opened

abbrev pub extent_of : Point → Extent
extent_of p = record { x = pos p.x; y = pos p.y; z = pos p.z }

unfoldable pub volume_of : Shape → ℕ → ℕ → Volume
volume_of g generation solid =
    record {
      origin = g.origin;
      chunks = extent_of (counted g);
      size = extent_of g.size;
      generation = generation;
      solid = solid;
    }

-- storage of n sections, all of it 0
unfoldable pub fresh_storage : ℕ → Storage
fresh_storage n = storage_of (replicate (n * 4096) 0) (replicate n 0) (replicate n 0) (replicate n 0) (replicate n 0)

-- the same lengths, all of it 0
unfoldable pub zeros : Lengths → Storage
zeros l = storage_of (replicate l.cells 0) (replicate l.hashes 0) (replicate l.versions 0) (replicate l.log 0) (replicate l.last 0)

abbrev pub joined : Volume → Storage → State
joined v s = state_of v s.cells s.hashes s.versions s.log s.last

-- a stand just opened
unfoldable pub fresh_state : Shape → State
fresh_state g = joined (volume_of g 0 0) (fresh_storage (sections g))
