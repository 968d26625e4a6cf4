-- Refusals as a table: document 01, 'Calls turned back'.
use Rattle.std.specs.Prelude.{ℕ, zero, suc, ◌*◌, Bool, cond, not, List, [], ◌∷◌, ◌==◌}
use Rattle.stand.specs.Shape.{sections, shape_of, well_formed}
use Rattle.stand.specs.declared.volume.Volume.{Volume}

-- a test, and the number that it gives
infixl 20 ◌⇒◌
pub data Rule : Type 0 where
  ◌⇒◌ : Bool → ℕ → Rule

-- the number of the first rule that applies, 0 for none; a table has its numbers in ascending order
unfoldable pub first : List Rule → ℕ
first [] = 0
first ((b ⇒ n) ∷ rs) = cond b n (first rs)

-- what a call answers: a number under which it is refused, or a value
pub data Answer (A : Type 0) : Type 0 where
  refused : ℕ → Answer A
  gives : A → Answer A

-- the answer under a refusal's number, 0 for none
unfoldable pub answer : {A : Type 0} → ℕ → A → Answer A
answer zero a = gives a
answer (suc n) a = refused (suc n)

-- ---- tables that several calls begin with

-- given a header
abbrev pub header_rules : Volume → List Rule
header_rules v = (not (well_formed v) ⇒ 3) ∷ []

-- given a header and a list of the length l, of which each section needs k entries
abbrev pub list_rules : ℕ → Volume → ℕ → List Rule
list_rules k v l = (not (well_formed v) ⇒ 3) ∷ (not (l == sections (shape_of v) * k) ⇒ 4) ∷ []
