-- Lists of calls: document 01, 'The book behind the sums', demand 3, and document 02, 2.2.
use Rattle.std.specs.Prelude.{ℕ, Bool, true, false, not, ◌&&◌, List, [], ◌∷◌, length}
use Rattle.std.proofs.Math.Option.{Option, none, some}
use Rattle.stand.specs.Edit.{fitting, set_call}
use Rattle.stand.specs.Fill.{fill_call}
use Rattle.stand.specs.Opening as O
use Rattle.stand.specs.Opening.{Opening, opened_shape}
use Rattle.stand.specs.Refusal.{Answer, gives, refused}
use Rattle.stand.specs.Shape.{sections, shape_of}
use Rattle.stand.specs.Storage.{Lengths, State, Storage, joined, lengths_of, storage, storage_fits}
use Rattle.stand.specs.Storage as St
use Rattle.stand.specs.declared.Cell.{Cell}
use Rattle.stand.specs.declared.volume.Extent.{Extent}
use Rattle.stand.specs.declared.volume.Volume.{Volume}
use Rattle.form.specs.Calls.{load_call}
use Rattle.form.specs.Form.{has_head, head_shape}
use Rattle.sheet.specs.Calls as S
use Rattle.sheet.specs.Calls.{Verdict, done, open_fits, refresh_fits}
use Rattle.sheet.specs.Card.{Terms}
use Rattle.sheet.specs.declared.Marks.{Marks}
use Rattle.ledger.specs.Book.{Book, Edit, Form, Origin, Source, write_edit, write_source}
use Rattle.ledger.specs.Reading.{Reading}

-- header and storage, marks and sheet
pub record Four : Type 0 where
  pub state : State
  pub marks : Marks
  pub sheet : List ℕ

-- the calls and their arguments; the lists of a measuring call are its rates and its mask, with any contents
pub data Op : Type 0 where
  open_stand : Origin → Extent → Op
  load_stand : Form → Op
  set : Cell → ℕ → Op
  set_lent : Cell → ℕ → Op
  fill : Cell → Cell → ℕ → Op
  open_sheet : Terms → List ℕ → Op
  refresh : Terms → List ℕ → Op
  totals : Op
  reads : Reading → Op

-- what an accepted call does to the four
pub data Effect : Type 0 where
  opens_stand : Source → Effect
  edits : Edit → Effect
  opens_sheet : Terms → List ℕ → Effect
  refreshes : Terms → List ℕ → Effect
  leaves : Effect

-- the one table of calls: a new call is a line of Op and a line here
abbrev pub effect_of : Op → Effect
effect_of (Op.open_stand o size) = Effect.opens_stand (Source.empty o size)
effect_of (Op.load_stand f) = Effect.opens_stand (Source.form f)
effect_of (Op.set c v) = Effect.edits (Edit.one c v)
effect_of (Op.set_lent c v) = Effect.edits (Edit.one c v)
effect_of (Op.fill c d v) = Effect.edits (Edit.box c d v)
effect_of (Op.open_sheet t m) = Effect.opens_sheet t m
effect_of (Op.refresh t m) = Effect.refreshes t m
effect_of Op.totals = Effect.leaves
effect_of (Op.reads r) = Effect.leaves

-- ---- one call on the four, by the definition that its contract cites

pub record Result : Type 0 where
  pub accepted : Bool
  -- the four after it
  pub four : Four
  -- whether it opened the storage, or the sheet, that it was lent
  pub new_storage : Bool
  pub new_sheet : Bool

abbrev pub is_given : {A : Type 0} → Answer A → Bool
is_given (gives a) = true
is_given (refused n) = false

abbrev pub is_done : Verdict → Bool
is_done done = true
is_done (S.refused n) = false

-- the header that opening gives; refused, the caller keeps his
abbrev pub header_after : Answer Volume → Volume → Volume
header_after (gives v) w = v
header_after (refused n) w = w

unfoldable pub opened : Four → Opening → Result
opened s r =
    record {
      accepted = is_given r.answer;
      four = record { state = joined (header_after r.answer s.state.volume) r.storage; marks = s.marks; sheet = s.sheet };
      new_storage = is_given r.answer;
      new_sheet = false;
    }

unfoldable pub edited : Four → St.Outcome ℕ → Result
edited s r =
    record {
      accepted = is_given r.answer;
      four = record { state = r.state; marks = s.marks; sheet = s.sheet };
      new_storage = false;
      new_sheet = false;
    }

unfoldable pub sheeted : Four → Bool → S.Outcome → Result
sheeted s opens r =
    record {
      accepted = is_done r.verdict;
      four = record { state = s.state; marks = r.marks; sheet = r.sheet };
      new_storage = false;
      new_sheet = opens && is_done r.verdict;
    }

abbrev pub source_call : Storage → Source → Opening
source_call st (Source.empty o size) = O.open_call st o.cell size
source_call st (Source.form f) = load_call st f.bytes

abbrev pub edit_call : State → Edit → St.Outcome ℕ
edit_call s (Edit.one c v) = set_call s c v
edit_call s (Edit.box c d v) = fill_call s c d v

-- a call that writes none of the four counts as accepted here: what it answers is its contract's
unfoldable pub result : Four → Effect → Result
result s (Effect.opens_stand x) = opened s (source_call (storage s.state) x)
result s (Effect.edits e) = edited s (edit_call s.state e)
result s (Effect.opens_sheet t m) = sheeted s true (S.open_call t s.state.volume s.state.cells s.marks m s.sheet)
result s (Effect.refreshes t m) =
    sheeted s false (S.refresh_call t s.state.volume s.state.cells s.state.log s.state.last s.marks m s.sheet)
result s Effect.leaves = record { accepted = true; four = s; new_storage = false; new_sheet = false }

-- the lists that a call is given are of a length that 4 refuses, which a load asks of the size in its head; one that writes none of the
-- four may be given any
unfoldable pub unfit : Four → Effect → Bool
unfit s (Effect.opens_stand (Source.empty o size)) = not (storage_fits (sections (opened_shape o.cell size)) (lengths_of (storage s.state)))
unfit s (Effect.opens_stand (Source.form f)) =
    has_head f.bytes && not (storage_fits (sections (head_shape f.bytes)) (lengths_of (storage s.state)))
unfit s (Effect.edits e) = not (fitting s.state)
unfit s (Effect.opens_sheet t m) = not (open_fits (sections (shape_of s.state.volume)) (length s.state.cells) (length s.sheet))
unfit s (Effect.refreshes t m) =
    not (refresh_fits (sections (shape_of s.state.volume)) (length s.state.cells) (length s.state.log) (length s.state.last) (length s.sheet))
unfit s Effect.leaves = true

-- ---- calls that are lent other lists

-- in the place of the four's storage, and of their sheet
pub record Call : Type 0 where
  pub storage : Option Storage
  pub sheet : Option (List ℕ)
  pub op : Op

abbrev pub call : Option Storage → Option (List ℕ) → Op → Call
call st l o = record { storage = st; sheet = l; op = o }

-- a call that is lent the four's own lists
abbrev pub own : Op → Call
own o = call none none o

abbrev pub or_else : {A : Type 0} → Option A → A → A
or_else none a = a
or_else (some b) a = b

-- the four that a call is given
unfoldable pub given : Four → Call → Four
given s c = record { state = joined s.state.volume (or_else c.storage (storage s.state)); marks = s.marks; sheet = or_else c.sheet s.sheet }

-- the list that is the four's after a call: their own, as it left it; another one only where it was opened
abbrev pub own_after : {A : Type 0} → Option A → Bool → A → A → A
own_after none opens own left = left
own_after (some b) true own left = left
own_after (some b) false own left = own

unfoldable pub left_by : Four → Call → Result → Four
left_by s c r =
    record {
      state = joined r.four.state.volume (own_after c.storage r.new_storage (storage s.state) (storage r.four.state));
      marks = r.four.marks;
      sheet = own_after c.sheet r.new_sheet s.sheet r.four.sheet;
    }

unfoldable pub step : Four → Call → Four
step s c = left_by s c (result (given s c) (effect_of c.op))

unfoldable pub run : Four → List Call → Four
run s [] = s
run s (c ∷ cs) = run (step s c) cs

unfoldable pub accepted : Four → Call → Bool
accepted s c = (result (given s c) (effect_of c.op)).accepted

-- ---- the book of a list of calls: fed arguments, and of what was lent only the lengths

unfoldable pub write : Book → Lengths → Effect → Book
write b l (Effect.opens_stand x) = write_source b l x
write b l (Effect.edits e) = write_edit b l e
write b l (Effect.opens_sheet t m) = b
write b l (Effect.refreshes t m) = b
write b l Effect.leaves = b

-- what the book is fed
pub record Fed : Type 0 where
  pub lengths : Lengths
  pub op : Op

unfoldable pub feed : Four → List Call → List Fed
feed s [] = []
feed s (c ∷ cs) = record { lengths = lengths_of (storage (given s c).state); op = c.op } ∷ feed (step s c) cs

unfoldable pub book : Book → List Fed → Book
book b [] = b
book b (e ∷ es) = book (write b e.lengths (effect_of e.op)) es
