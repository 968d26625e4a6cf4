-- Each call's step is the outcome that its contract cites; a call that writes none of the four, or is refused, leaves them.
use Rattle.std.specs.Prelude.{ℕ, ◌≡◌, Bool, true, false, List}
use Rattle.stand.specs.Edit.{set_call}
use Rattle.stand.specs.Fill.{fill_call}
use Rattle.stand.specs.Opening as O
use Rattle.stand.specs.Storage.{State, joined, storage}
use Rattle.stand.specs.declared.Cell.{Cell}
use Rattle.stand.specs.declared.volume.Extent.{Extent}
use Rattle.form.specs.Calls.{load_call}
use Rattle.sheet.specs.Calls as S
use Rattle.sheet.specs.Card.{Terms}
use Rattle.sheet.specs.declared.Marks.{Marks}
use Rattle.ledger.specs.Book.{Form, Origin}
use Rattle.ledger.specs.Reading.{Reading}
use Rattle.ledger.specs.Calls.{Call, Effect, Four, Op, accepted, effect_of, given, header_after, is_done, is_given, own, step, unfit}

-- a call lent the four's own lists: whether it is accepted, and the four after it
pub record Done (s : Four) (o : Op) (a : Bool) (st : State) (k : Marks) (l : List ℕ) : Type 0 where
  pub is-accepted : accepted s (own o) ≡ a
  pub four : step s (own o) ≡ record { state = st; marks = k; sheet = l }

pub record Steps (s : Four) : Type 0 where
  -- ---- lent the four's own lists

  pub open_stand : (o : Origin) (size : Extent)
      → (let r = O.open_call (storage s.state) o.cell size in
      Done s (Op.open_stand o size) (is_given r.answer) (joined (header_after r.answer s.state.volume) r.storage) s.marks s.sheet)
  pub load-stand : (f : Form)
      → (let r = load_call (storage s.state) f.bytes in
      Done s (Op.load_stand f) (is_given r.answer) (joined (header_after r.answer s.state.volume) r.storage) s.marks s.sheet)
  pub set : (c : Cell) (v : ℕ) → (let r = set_call s.state c v in Done s (Op.set c v) (is_given r.answer) r.state s.marks s.sheet)
  pub set-lent : (c : Cell) (v : ℕ) → (let r = set_call s.state c v in Done s (Op.set_lent c v) (is_given r.answer) r.state s.marks s.sheet)
  pub fill : (c d : Cell) (v : ℕ) → (let r = fill_call s.state c d v in Done s (Op.fill c d v) (is_given r.answer) r.state s.marks s.sheet)
  pub open_sheet : (t : Terms) (m : List ℕ)
      → (let r = S.open_call t s.state.volume s.state.cells s.marks m s.sheet in
      Done s (Op.open_sheet t m) (is_done r.verdict) s.state r.marks r.sheet)
  pub refresh : (t : Terms) (m : List ℕ)
      → (let r = S.refresh_call t s.state.volume s.state.cells s.state.log s.state.last s.marks m s.sheet in
      Done s (Op.refresh t m) (is_done r.verdict) s.state r.marks r.sheet)
  -- ---- however lent

  -- totals and every read
  pub totals : (c : Call) → c.op ≡ Op.totals → step s c ≡ s
  pub reads : (c : Call) (r : Reading) → c.op ≡ Op.reads r → step s c ≡ s
  -- any call that the table says leaves them
  pub leaves : (c : Call) → effect_of c.op ≡ Effect.leaves → step s c ≡ s
  pub refused-leaves : (c : Call) → accepted s c ≡ false → step s c ≡ s
  -- a call lent lists of a length that 4 refuses
  pub unfit-leaves : (c : Call) → unfit (given s c) (effect_of c.op) ≡ true → step s c ≡ s
