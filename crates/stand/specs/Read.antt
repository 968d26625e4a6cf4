-- The calls that only read: document 01, 'The stand' and refusals 3, 4, 5 and 7.
use Rattle.std.specs.Prelude.{ℕ, Bool, not, ◌&&◌, List, [], ◌∷◌, ◌++◌, length, nat_le, slice_index}
use Rattle.stand.specs.Cells.{is_empty}
use Rattle.stand.specs.Edit.{look}
use Rattle.stand.specs.Refusal.{Answer, ◌⇒◌, answer, first, header_rules, list_rules}
use Rattle.stand.specs.Shape.{cell_from, chunk_of, corner, counted, inside, sections, shape_of}
use Rattle.stand.specs.Hash.{digest_of}
use Rattle.stand.specs.declared.Cell.{Cell}
use Rattle.stand.specs.declared.volume.Volume.{Volume}

-- ---- of the header alone

-- a question about the header: the value, unless 3
unfoldable pub of_header : {A : Type 0} → Volume → A → Answer A
of_header v a = answer (first (header_rules v)) a

unfoldable pub chunk_of_call : Volume → Cell → Answer ℕ
chunk_of_call v c = answer (first (header_rules v ++ (not (inside (shape_of v) c) ⇒ 5) ∷ [])) (chunk_of (shape_of v) c)

unfoldable pub chunk_origin_call : Volume → ℕ → Answer Cell
chunk_origin_call v i =
    answer (first (header_rules v ++ (nat_le (sections (shape_of v)) i ⇒ 7) ∷ []))
    (cell_from (shape_of v) (corner (counted (shape_of v)) i))

-- ---- of the cells, 4,096 for each section

-- no for a cell outside
unfoldable pub is_solid_call : Volume → List ℕ → Cell → Answer Bool
is_solid_call v cells c =
    answer (first (list_rules 4096 v (length cells)))
    (inside (shape_of v) c && not (is_empty (look (shape_of v) cells c)))

unfoldable pub get_call : Volume → List ℕ → Cell → Answer ℕ
get_call v cells c =
    answer (first (list_rules 4096 v (length cells) ++ (not (inside (shape_of v) c) ⇒ 5) ∷ []))
    (look (shape_of v) cells c)

-- ---- of a list with one entry for each section

-- the entry of a section: its hash, or its version
unfoldable pub entry_call : Volume → List ℕ → ℕ → Answer ℕ
entry_call v l i =
    answer (first (list_rules 1 v (length l) ++ (nat_le (sections (shape_of v)) i ⇒ 7) ∷ [])) (slice_index l i)

-- the versions of all
unfoldable pub versions_call : Volume → List ℕ → Answer (List ℕ)
versions_call v l = answer (first (list_rules 1 v (length l))) l

unfoldable pub digest_call : Volume → List ℕ → Answer ℕ
digest_call v hashes = answer (first (list_rules 1 v (length hashes))) (digest_of v hashes)
