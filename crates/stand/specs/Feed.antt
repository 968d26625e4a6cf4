-- Changed since a mark: document 01, 'The stand' and refusals 3, 4, 8 and 9.
use Rattle.std.specs.Prelude.{ℕ, zero, suc, ◌+◌, ◌-◌, ◌%◌, Bool, cond, not, ◌&&◌, ltb, List, [], ◌∷◌, length, ◌==◌, nat_le, nat_lt, slice_index, slice_set}
use Rattle.stand.specs.Refusal.{Answer, ◌⇒◌, answer, first, gives, refused}
use Rattle.stand.specs.Shape.{sections, shape_of, well_formed}
use Rattle.stand.specs.declared.volume.Volume.{Volume}

-- ---- over the log and the last changes of n sections

module _ (n : ℕ) (log last : List ℕ) where
  -- the section that the log has for generation j + 1
  unfoldable pub logged : ℕ → ℕ
  logged j = slice_index log (j % n)

  -- that entry is a section, and its last change is generation j + 1
  unfoldable pub given_at : ℕ → Bool
  given_at j = nat_lt (logged j) n && slice_index last (logged j) == j + 1

  -- the sections given by generations j + 1 to j + k, in order
  unfoldable pub walk : ℕ → ℕ → List ℕ
  walk j zero = []
  walk j (suc k) = cond (given_at j) (logged j ∷ walk (j + 1) k) (walk (j + 1) k)

  -- the same of one section c, with no walk: its last change is one of generations mark + 1 to upto, and the log has c for it
  unfoldable pub changed_of : ℕ → ℕ → ℕ → Bool
  changed_of mark upto c = nat_lt mark (slice_index last c) && (nat_le (slice_index last c) upto && logged (slice_index last c - 1) == c)

-- the next section of a walk, and the generation that gave it
pub data Next : Type 0 where
  chunk : ℕ → ℕ → Next
  end : Next

unfoldable pub next_from : (n : ℕ) (log last : List ℕ) → ℕ → ℕ → Next
next_from n log last j zero = end
next_from n log last j (suc k) = cond (given_at n log last j) (chunk (logged n log last j) (j + 1)) (next_from n log last (j + 1) k)

-- ---- the calls

-- the two lists have one entry for each section; a mark may lag by the section count
unfoldable pub feed_refusal : Volume → ℕ → ℕ → ℕ → ℕ
feed_refusal v log last mark =
    first
    ((not (well_formed v) ⇒ 3) ∷ (not (log == sections (shape_of v) && last == sections (shape_of v)) ⇒ 4)
    ∷ (ltb v.generation mark ⇒ 8) ∷ (ltb (sections (shape_of v)) (v.generation - mark) ⇒ 9) ∷ [])

-- the check: where a walk from the mark starts
unfoldable pub changed_since : Volume → List ℕ → List ℕ → ℕ → Answer ℕ
changed_since v log last mark = answer (feed_refusal v (length log) (length last) mark) mark

-- one step of the walk; next is the generation of the step before, at first the mark
unfoldable pub changed_step : Volume → List ℕ → List ℕ → ℕ → Answer Next
changed_step v log last next =
    answer (feed_refusal v (length log) (length last) next)
    (next_from (sections (shape_of v)) log last next (v.generation - next))

-- where a walk that stood at next stands after a step: at the generation that gave a section, else where it stood
abbrev pub next_after : Answer Next → ℕ → ℕ
next_after (gives (chunk c g)) next = g
next_after (gives end) next = next
next_after (refused n) next = next

-- ---- a whole walk, its sections written to a list

-- the sections of a walk from the mark, in order
abbrev pub sections_since : Volume → List ℕ → List ℕ → ℕ → List ℕ
sections_since v log last mark = walk (sections (shape_of v)) log last mark (v.generation - mark)

-- sections written from place i on, as far as the list has room
unfoldable pub written_from : ℕ → List ℕ → List ℕ → List ℕ
written_from i [] out = out
written_from i (c ∷ cs) out = written_from (i + 1) cs (slice_set out i c)

-- how many they are, and the list after it, under a refusal's number, 0 for none; a refusal writes nothing
unfoldable pub walked : ℕ → List ℕ → List ℕ → Answer ℕ × List ℕ
walked zero cs out = (gives (length cs), written_from 0 cs out)
walked (suc n) cs out = (refused (suc n), out)

unfoldable pub walk_call : Volume → List ℕ → List ℕ → ℕ → List ℕ → Answer ℕ × List ℕ
walk_call v log last mark out =
    walked (feed_refusal v (length log) (length last) mark) (sections_since v log last mark) out
