-- What the contracts of inner functions say; a reader of the calls needs none of it.
use Rattle.std.specs.Prelude.{ℕ, zero, suc, ◌+◌, ◌-◌, ◌*◌, ◌/◌, ◌%◌, ◌≤◌, ◌<◌, ◌≡◌, Bool, cond, true, ◌&&◌, List, [], ◌∷◌, ◌++◌, get_or, eqb, leb, ltb, length, Option, Some, None}
use Rattle.std.proofs.lemmas.List.Edits.{sets}
use Rattle.arith.specs.Bytes.{signed_at, short_at, word_bytes}
use Rattle.stand.specs.Cells.{cell_of, is_empty}
use Rattle.stand.specs.Edit.{toggled}
use Rattle.stand.specs.Opening.{shape_rules}
use Rattle.stand.specs.Refusal.{Rule, ◌⇒◌}
use Rattle.stand.specs.Shape.{Shape, sections}
use Rattle.stand.specs.declared.Cell.{Cell}
use Rattle.stand.specs.declared.volume.Extent.{Extent}
use Rattle.stand.specs.declared.volume.shape.Point.{Point}
use Rattle.form.specs.Entries.{Entry, entry_of, inside_at}
use Rattle.form.specs.Form.{cell_length, end_length, entries_bytes, entry_in, has_head, head_length, head_shape}
use Rattle.form.specs.declared.digest.Run.{Run}
use Rattle.form.specs.declared.head.Head.{Head}
use Rattle.form.specs.declared.record.Record.{Record}

-- where record k of the cells begins
abbrev pub record_at : ℕ → ℕ
record_at k = head_length + k * cell_length

-- ---- the head

abbrev pub cell_in : List ℕ → ℕ → Cell
cell_in f at = cell_of (signed_at f at) (signed_at f (at + 4)) (signed_at f (at + 8))

abbrev pub extent_in : List ℕ → ℕ → Extent
extent_in f at = record { x = signed_at f at; y = signed_at f (at + 4); z = signed_at f (at + 8) }

abbrev pub head_of : List ℕ → Head
head_of f = record { origin = cell_in f 1; size = extent_in f 13 }

unfoldable pub head_in : List ℕ → Option Head
head_in f = cond (has_head f) (Some (head_of f)) None

-- what opening the head's stand is refused by
unfoldable pub head_rules : List ℕ → List Rule
head_rules f = cond (has_head f) (shape_rules (head_shape f)) ((true ⇒ 14) ∷ [])

-- ---- a slot

-- an index within a section that begins at `low` is of a cell inside n cells along each axis
unfoldable pub inside_spot : Point → Point → ℕ → Bool
inside_spot low n w = ltb (low.x + w % 16) n.x && (ltb (low.y + w / 16 % 16) n.y && ltb (low.z + w / 256) n.z)

-- what slot k counts as, in a section that begins at `low`
unfoldable pub kept_in : Point → Point → List ℕ → ℕ → ℕ
kept_in low n cells k = cond (inside_spot low n (k % 4096)) (get_or cells k 0) 0

-- ---- the record of a cell

abbrev pub record_in : List ℕ → ℕ → Record
record_in f at = record { section = short_at f (at + 1); within = short_at f (at + 3); finish = short_at f (at + 5) }

abbrev pub slot_of : Record → ℕ
slot_of r = r.section * 4096 + r.within

unfoldable pub good_record : Shape → Record → Bool
good_record g r = leb r.within 4095 && (ltb 0 r.finish && (ltb r.section (sections g) && inside_at g (slot_of r)))

-- how many cells a form of this length has, where it has whole records
unfoldable pub counted_in : ℕ → Option ℕ
counted_in l = cond (leb (head_length + end_length) l && eqb ((l - (head_length + end_length)) % cell_length) 0) (Some ((l - (head_length + end_length)) / cell_length)) None

-- ---- entries in one pass

-- the entry of a slot that holds x
unfoldable pub one_of : ℕ → ℕ → List Entry
one_of k x = cond (is_empty x) [] (entry_of k x ∷ [])

-- from p on the bytes of these entries, if the output has room for them; the place after them
pub record Written (old out : List ℕ) (p : ℕ) (es : List Entry) (at : ℕ) : Type 0 where
  pub place : at ≡ p + length (entries_bytes es)
  pub bytes : at ≤ length old → out ≡ sets old p (entries_bytes es)

-- ascending from slot k on
abbrev pub Asc : ℕ → List Entry → Type 0
Asc k [] = Unit {0}
Asc k (e ∷ es) = (k ≤ e.slot) × Asc (suc e.slot) es

abbrev pub Each : (Entry → Type 0) → List Entry → Type 0
Each P [] = Unit {0}
Each P (e ∷ es) = P e × Each P es

pub record Ordered (g : Shape) (es : List Entry) : Type 0 where
  pub ascending : Asc 0 es
  pub below : Each (λ e. e.slot < sections g * 4096) es

-- entries that fit lists of these lengths
abbrev pub Roomy : ℕ → ℕ → List Entry → Type 0
Roomy c h es = Each (λ e. (e.slot < c) × (e.slot / 4096 < h)) es

abbrev pub run_of : ℕ → ℕ → Run
run_of k h = record { next = k; hash = h }

-- of m records from k on, those of section i that come first: the record after them, and their hash
unfoldable pub run_from : List ℕ → ℕ → ℕ → ℕ → ℕ → Run
run_from f i k h zero = run_of k h
run_from f i k h (suc m) =
    cond (eqb i ((entry_in f (record_at k)).slot / 4096))
    (run_from f i (k + 1) (toggled ((entry_in f (record_at k)).slot % 4096) (entry_in f (record_at k)).finish h) m)
    (run_of k h)

-- ---- a head written in two halves

unfoldable pub three_bytes : ℕ → ℕ → ℕ → List ℕ
three_bytes x y z = word_bytes x ++ (word_bytes y ++ word_bytes z)
