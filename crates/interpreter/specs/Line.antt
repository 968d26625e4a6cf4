-- The line that a reply prints, in ASCII: document 01, 'Trial program'.
use Rattle.std.specs.Prelude.{◌≡◌, cond, List, [], ◌∷◌, ◌++◌, ℕ, zero, suc, ◌+◌, ◌/◌, ◌%◌, ◌≤◌, ltb, take, drop}
use Rattle.interpreter.specs.declared.Reply.{Reply}
use Rattle.interpreter.specs.declared.Reply.TheVariants.{Quiet, Price, Refused, Broken}
use Rattle.io.specs.Counts.{IsPrefixLen}

-- the decimal digits of a number, its last k at most, and no zeros in front
unfoldable pub digits_to : ℕ → ℕ → List ℕ
digits_to zero n = []
digits_to (suc k) n = cond (ltb n 10) ((48 + n) ∷ []) (digits_to k (n / 10) ++ ((48 + n % 10) ∷ []))

-- 20 digits hold every u64
unfoldable pub decimal : ℕ → List ℕ
decimal n = digits_to 20 n

-- a number and the byte after it
unfoldable pub item : ℕ → ℕ → List ℕ
item n end = decimal n ++ (end ∷ [])

-- "refused "
abbrev pub refused_text : List ℕ
refused_text = 114 ∷ 101 ∷ 102 ∷ 117 ∷ 115 ∷ 101 ∷ 100 ∷ 32 ∷ []

-- "broken" and a line end
abbrev pub broken_text : List ℕ
broken_text = 98 ∷ 114 ∷ 111 ∷ 107 ∷ 101 ∷ 110 ∷ 10 ∷ []

-- generation, panels, faces, cents, with blanks between; or the refusal's number
unfoldable pub line_of : Reply → List ℕ
line_of Quiet = []
line_of (Price generation row) =
    item generation 32 ++ item row.panels 32 ++ item row.faces 32 ++ item row.cents 10
line_of (Refused number) = refused_text ++ item number 10
line_of Broken = broken_text

-- ---- writing

-- r bytes stand in `after`: the first `at` of `before`, and then the text; what follows is as it was
pub record Appended (text before : List ℕ) (at : ℕ) (after : List ℕ) (r : ℕ) : Type 0 where
  pub counts : IsPrefixLen r after
  pub on : at ≤ r
  pub said : take r after ≡ take at before ++ text
  pub rest : drop r after ≡ drop r before
