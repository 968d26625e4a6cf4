-- Each call, whatever it is lent, keeps what book and state have in common.
use mathlib.Core.Path.{◌≡◌, sym, ap, ◌∙◌}
use mathlib.Core.Bool.{true, false}
use mathlib.Core.List.{List}
use mathlib.Core.Option.{Option, none, some}
use borrow.Author.Tests.{not-true}
use Prim.Native.Nat.{ℕ}
use Rattle.stand.specs.Edit.{fitting, set_call}
use Rattle.stand.specs.Fill.{fill_call}
use Rattle.stand.specs.Opening.{Opening}
use Rattle.stand.specs.Shape.{Shape, sections}
use Rattle.stand.specs.Storage.{Storage, joined, lengths_of, storage, storage_fits}
use Rattle.stand.specs.declared.Cell.{Cell}
use Rattle.ledger.specs.Book.{Book, Edit, Source, fits_book, write_fill, write_set, write_source}
use Rattle.ledger.specs.Calls as C
use Rattle.ledger.specs.Calls.{Call, Effect, Four, Op, call, edited, effect_of, given, header_after, is_given, left_by, or_else, own_after, result, sheeted, source_call, step, unfit, write}
use Rattle.ledger.specs.Claim.{Lent, Uses}
use Rattle.ledger.proofs.Lent.{fill-lent, set-lent, write-fill-lent, write-set-lent}
use Rattle.ledger.proofs.Tells.{Tells, by_opening, tells_fill, tells_set, tells_source}

-- ---- a call with any effect in the place of its own: what it may be lent, whether it is accepted, the four after it

abbrev pub LentBy : Four → Call → Effect → Type 0
LentBy s c e = Uses e c.storage c.sheet (unfit (given s c) e ≡ true)

abbrev pub AcceptedBy : Four → Call → Effect → Type 0
AcceptedBy s c e = (result (given s c) e).accepted ≡ true

abbrev pub step_by : Four → Call → Effect → Four
step_by s c e = left_by s c (result (given s c) e)

-- ---- opening or loading a stand

module _ (s : Four) (b : Book) (k : Tells s.state b) where
  -- the state that an opening leaves
  abbrev Left : Option Storage → Opening → Book → Type 0
  Left st r b' = Tells (joined (header_after r.answer s.state.volume) (own_after st (is_given r.answer) (storage s.state) r.storage)) b'

  opening-left : (st : Option Storage) (x : Source)
      → Left st (source_call (or_else st (storage s.state)) x) (write_source b (lengths_of (or_else st (storage s.state))) x)
  opening-left none x = by_opening (Left none) (storage s.state) b x (λ n. k) (tells_source x (lengths_of (storage s.state)))
  opening-left (some st) x = by_opening (Left (some st)) st b x (λ n. k) (tells_source x (lengths_of st))

  -- ---- set and fill, lent other storage

  module _ (st : Storage) (e : fitting (joined s.state.volume st) ≡ false) where
    book-fits : fits_book b (lengths_of st) ≡ false
    unfolding fits_book fitting
    book-fits = ap (λ (g : Shape). storage_fits (sections g) (lengths_of st)) (sym k.shape_is) ∙ e

    set_other : (c : Cell) (v : ℕ) → Tells (joined (set_call (joined s.state.volume st) c v).state.volume (storage s.state)) (write_set b (lengths_of st) c v)
    set_other c v =
        rw (set-lent (joined s.state.volume st) c v e, write-set-lent b (lengths_of st) c v book-fits) k

    fill-other : (c d : Cell) (v : ℕ) → Tells (joined (fill_call (joined s.state.volume st) c d v).state.volume (storage s.state)) (write_fill b (lengths_of st) c d v)
    fill-other c d v =
        rw (fill-lent (joined s.state.volume st) c d v e, write-fill-lent b (lengths_of st) c d v book-fits) k

  -- ---- any call

  abbrev After : Option Storage → Option (List ℕ) → Op → Effect → Type 0
  After st l o e = Tells (step_by s (call st l o) e).state (write b (lengths_of (storage (given s (call st l o)).state)) e)

  tells_call : (st : Option Storage) (l : Option (List ℕ)) (o : Op) (e : Effect) → LentBy s (call st l o) e → After st l o e
  unfolding left_by given result C.opened edited sheeted write unfit
  tells_call st l o (Effect.opens_stand x) w = opening-left st x
  tells_call none l o (Effect.edits (Edit.one c v)) w = tells_set s.state b c v k
  tells_call none l o (Effect.edits (Edit.box c d v)) w = tells_fill s.state b c d v k
  tells_call (some st) l o (Effect.edits (Edit.one c v)) w = set_other st (not-true _ w) c v
  tells_call (some st) l o (Effect.edits (Edit.box c d v)) w = fill-other st (not-true _ w) c d v
  tells_call none l o (Effect.opens_sheet t m) w = k
  tells_call (some st) l o (Effect.opens_sheet t m) w = k
  tells_call none l o (Effect.refreshes t m) w = k
  tells_call (some st) l o (Effect.refreshes t m) w = k
  tells_call none l o Effect.leaves w = k
  tells_call (some st) l o Effect.leaves w = k

pub tells_step : (s : Four) (b : Book) (c : Call) → Lent s c → Tells s.state b
    → Tells (step s c).state (write b (lengths_of (storage (given s c).state)) (effect_of c.op))
unfolding step Lent
tells_step s b c w k = tells_call s b k c.storage c.sheet c.op (effect_of c.op) w
