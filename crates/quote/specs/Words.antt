-- The words of a line, a list of bytes.
use Rattle.std.specs.Prelude.{Bool, cond, not, ◌||◌, List, ℕ, eqb, length, take, drop, position, Option, Some, None, unwrap_or, option_and_then}
use Rattle.std.specs.Borrow.{Bor}

-- space, tab, carriage return
unfoldable pub is_blank : ℕ → Bool
is_blank b = eqb b 32 || (eqb b 9 || eqb b 13)

-- a blank, or the '#' of a comment
unfoldable pub is_end : ℕ → Bool
is_end b = is_blank b || eqb b 35

-- the word that a list begins with, up to where it ends, and what stands behind it
abbrev pub cut_at : List ℕ → ℕ → Option (List ℕ × List ℕ)
cut_at rest n = cond (eqb n 0) None (Some (take n rest, drop n rest))

abbrev pub cut_word : List ℕ → Option (List ℕ × List ℕ)
cut_word rest = cut_at rest (unwrap_or (position is_end rest) (length rest))

-- the next word of a line, if there is one, and what stands behind it
unfoldable pub next_word : List ℕ → Option (List ℕ × List ℕ)
next_word line = option_and_then (λ from. cut_word (drop from line)) (position (λ b. not (is_blank b)) line)

-- the same, with the word lent
abbrev pub lent_word : Option (Bor (List ℕ)) → List ℕ → Option (List ℕ × List ℕ)
lent_word None rest = None
lent_word (Some word) rest = Some (word.now, rest)
