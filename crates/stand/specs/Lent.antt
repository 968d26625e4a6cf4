-- What the code answers and what it is lent, as document 01's terms.
use Rattle.std.specs.Borrow.{Bor}
use Rattle.std.specs.List.{find, range_with_len}
use Rattle.std.specs.Prelude.{◌≡◌, ℕ, not, List, slice_index, Result, Ok, Err, Option, Some, None}
use Rattle.stand.specs.Answer.{refusal_number}
use Rattle.stand.specs.Cells.{is_empty}
use Rattle.stand.specs.Feed as F
use Rattle.stand.specs.Refusal.{Answer, gives, refused}
use Rattle.stand.specs.Solids as S
use Rattle.stand.specs.Storage.{Outcome, State, joined, outcome_of, storage_of}
use Rattle.stand.specs.Storage as T
use Rattle.stand.specs.declared.Voxel.{Voxel}
use Rattle.stand.specs.declared.volume.Volume.{Volume}
use Rattle.stand.specs.declared.volume.edit.Edited.{Edited}
use Rattle.stand.specs.declared.volume.feed.Changed.{Changed}
use Rattle.stand.specs.declared.volume.refusal.Refusal.{Refusal}
use Rattle.stand.specs.declared.volume.solids.Solid.{Solid}
use Rattle.stand.specs.declared.volume.storage.Storage.{Storage}

-- ---- storage

-- what the five lists hold
abbrev pub storage_in : Storage → T.Storage
storage_in s = storage_of s.cells.now s.hashes.now s.versions.now s.log.now s.last.now

abbrev pub stand_in : Volume → Storage → State
stand_in v s = joined v (storage_in s)

-- the same five lists are lent
pub record Kept (s t : Storage) : Type 0 where
  pub cells : t.cells.ghost_name ≡ s.cells.ghost_name
  pub hashes : t.hashes.ghost_name ≡ s.hashes.ghost_name
  pub versions : t.versions.ghost_name ≡ s.versions.ghost_name
  pub log : t.log.ghost_name ≡ s.log.ghost_name
  pub last : t.last.ghost_name ≡ s.last.ghost_name

-- ---- answers

-- what an edit of v comes to: the cells changed, and the state; refused, the header is as it was
abbrev pub edit_outcome : Volume → Result Edited Refusal → Storage → Outcome ℕ
edit_outcome v (Ok e) s = outcome_of (gives e.count) (stand_in e.volume s)
edit_outcome v (Err r) s = outcome_of (refused (refusal_number r)) (stand_in v s)

-- a finish, as its number
abbrev pub voxel_answer : Result Voxel Refusal → Answer ℕ
voxel_answer (Ok v) = gives v.0
voxel_answer (Err r) = refused (refusal_number r)

-- a list that is lent, as what it holds
abbrev pub versions_answer : Result (Bor (List ℕ)) Refusal → Answer (List ℕ)
versions_answer (Ok l) = gives l.now
versions_answer (Err r) = refused (refusal_number r)

-- a step of the walk over changed sections
abbrev pub given_by : Option Changed → F.Next
given_by (Some c) = F.chunk c.chunk c.generation
given_by None = F.end

abbrev pub step_answer : Result (Option Changed) Refusal → Answer F.Next
step_answer (Ok c) = gives (given_by c)
step_answer (Err r) = refused (refusal_number r)

-- a step of the walk over occupied cells
abbrev pub solid_by : Option Solid → S.Solid
solid_by (Some c) = S.solid c.cell c.voxel.0 c.rest.next
solid_by None = S.end

abbrev pub solid_answer : Result (Option Solid) Refusal → Answer S.Solid
solid_answer (Ok c) = gives (solid_by c)
solid_answer (Err r) = refused (refusal_number r)

-- for the code: the first occupied index from i on, with k left, if there is one
unfoldable pub first_occupied : List ℕ → ℕ → ℕ → Option ℕ
first_occupied cells i k = find (λ j. not (is_empty (slice_index cells j))) (range_with_len i k)
