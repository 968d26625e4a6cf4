-- The calls that mesh: document 01, 'Panels', and 3, 4, 7, 10 and 11 of 'Calls refused'.
use Rattle.std.specs.Prelude.{ℕ, zero, suc, ◌/◌, Bool, cond, List, [], ◌∷◌, ◌++◌, leb, ltb, ℤ, length, drop, replicate, Result, Ok, Err}
use Rattle.stand.specs.Answer.{refusal_number}
use Rattle.stand.specs.Edit.{look}
use Rattle.stand.specs.Refusal.{Answer, Rule, ◌⇒◌, answer, first, header_rules, list_rules}
use Rattle.stand.specs.Shape.{Shape, sections, shape_of}
use Rattle.stand.specs.declared.volume.Volume.{Volume}
use Rattle.stand.specs.declared.volume.shape.Region.{Region}
use Rattle.mesh.specs.Panels.{part_panels}
use Rattle.mesh.specs.Part.{largest_side, section_part, whole_part}
use Rattle.mesh.specs.Quad.{write_from}
use Rattle.mesh.specs.declared.Quad.{Quad}
use Rattle.mesh.specs.declared.faces.Unmeshed.{Unmeshed}
use Rattle.mesh.specs.declared.faces.Unmeshed.TheVariants as U

-- what a meshing call answers: the panels written; refused by a number; or refused by one that adds the panels needed
pub data Meshed : Type 0 where
  panels : ℕ → Meshed
  refused : ℕ → Meshed
  short : ℕ → ℕ → Meshed

abbrev pub faces_answer : Result ℕ Unmeshed → Meshed
faces_answer (Ok n) = panels n
faces_answer (Err (U.Refused r)) = refused (refusal_number r)
faces_answer (Err (U.TooShort n)) = short 11 n

-- answer, mask and list after a call
pub record Meshing : Type 0 where
  pub answer : Meshed
  pub mask : List ℕ
  pub list : List ℤ

abbrev pub meshing_of : Meshed → List ℕ → List ℤ → Meshing
meshing_of a m l = record { answer = a; mask = m; list = l }

-- 'Calls turned back', 7: there is no section i
abbrev pub chunk_rules : Volume → ℕ → List Rule
chunk_rules v i = (leb (sections (shape_of v)) i ⇒ 7) ∷ []

-- 'Calls turned back': accepted or refused by 11, as many first slots as 10 wants are 0
unfoldable pub wiped : ℕ → List ℕ → List ℕ
wiped n m = replicate n 0 ++ drop n m

unfoldable pub written : ℕ → List ℕ → List ℤ → List Quad → Meshing
written want m l qs =
    meshing_of (cond (leb (length qs) (length l / 8)) (panels (length qs)) (short 11 (length qs))) (wiped want m) (write_from l 0 qs)

-- under a refusal's number, 0 for none
unfoldable pub meshed : ℕ → ℕ → List ℕ → List ℤ → List Quad → Meshing
meshed zero want m l qs = written want m l qs
meshed (suc n) want m l qs = meshing_of (refused (suc n)) m l

-- the part r is meshed if neither the rules nor 10 turn the call back
unfoldable pub part_call : List Rule → Shape → List ℕ → Bool → Region → List ℕ → List ℤ → Meshing
part_call rs g cells beyond r m l =
    meshed (first (rs ++ (ltb (length m) (largest_side r) ⇒ 10) ∷ [])) (largest_side r) m l (part_panels beyond g (look g cells) r)

unfoldable pub faces_call : Volume → List ℕ → Bool → List ℕ → List ℤ → Meshing
faces_call v cells beyond m l = part_call (list_rules 4096 v (length cells)) (shape_of v) cells beyond (whole_part (shape_of v)) m l

unfoldable pub chunk_faces_call : Volume → List ℕ → ℕ → Bool → List ℕ → List ℤ → Meshing
chunk_faces_call v cells i beyond m l =
    part_call (list_rules 4096 v (length cells) ++ chunk_rules v i) (shape_of v) cells beyond (section_part (shape_of v) i) m l

-- how many mask slots a section wants
unfoldable pub slots_call : Volume → ℕ → Answer ℕ
slots_call v i = answer (first (header_rules v ++ chunk_rules v i)) (largest_side (section_part (shape_of v) i))
