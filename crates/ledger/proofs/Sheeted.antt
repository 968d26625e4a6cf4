-- Opening and refresh of the sheet, accepted: which lists they were lent, and what they measured.
use mathlib.Core.Path.{◌≡◌, refl, sym, ap, ◌∙◌, subst}
use mathlib.Core.Bool.{Bool, true, false, not, ◌&&◌, false≢true}
use mathlib.Core.List.{List}
use mathlib.Core.Option.{Option, none, some}
use Prim.Native.Nat.{ℕ, ◌*◌, ◌≤◌}
use borrow.Author.Tests.{eqb-true, ltb-false, not-true}
use lib.Dec.{eqb, ltb}
use lib.ListN.{length}
use Rattle.stand.specs.Edit.{look}
use Rattle.stand.specs.Shape.{sections}
use Rattle.stand.specs.Storage.{State, Storage, joined, shape}
use Rattle.stand.proofs.Tests.{both}
use Rattle.sheet.specs.Calls as S
use Rattle.sheet.specs.Calls.{every, open_fits, refresh_fits}
use Rattle.sheet.specs.Card.{Terms}
use Rattle.sheet.specs.Due.{todo}
use Rattle.ledger.specs.Calls.{Call, Effect, Four, Op, accepted, call, effect_of, given, is_done, left_by, or_else, own_after, result, sheeted, step, unfit}
use Rattle.ledger.specs.Claim.{Lent}
use Rattle.ledger.proofs.Accepted.{call_measures, call-passed}
use Rattle.ledger.proofs.Kept.{AcceptedBy, LentBy, step_by}
use Rattle.ledger.proofs.Measured.{Measures, Passed}

-- what 4 asks cannot both fail and pass
pub both_ways : (b : Bool) → not b ≡ true → b ≡ true → ⊥
both_ways b e h = false≢true (sym (not-true b e) ∙ h)

-- ---- opening, accepted: on the four's own sheet, or on another one

open_length : (a : State) (l : List ℕ) → open_fits (sections (shape a)) (length a.cells) (length l) ≡ true → length l ≡ sections (shape a) * 3
unfolding open_fits
open_length a l e = eqb-true _ _ (both (eqb (length a.cells) (sections (shape a) * 4096)) (eqb (length l) (sections (shape a) * 3)) e).1

module _ (s : Four) (t : Terms) (m : List ℕ) where
  abbrev fits_open : State → List ℕ → Bool
  fits_open a l = open_fits (sections (shape a)) (length a.cells) (length l)

  abbrev done_open : State → List ℕ → Type 0
  done_open a l = is_done (S.open_call t a.volume a.cells s.marks m l).verdict ≡ true

  pub open_fits_lem : (a : State) (l : List ℕ) → done_open a l → fits_open a l ≡ true
  unfolding S.open_call
  open_fits_lem a l e = (call-passed t a every (fits_open a l) false s.marks m l e).fits-is

  open_left : (l : List ℕ) → done_open s.state l → (after : Four)
      → after.sheet ≡ (S.open_call t s.state.volume s.state.cells s.marks m l).sheet
      → after.marks ≡ (S.open_call t s.state.volume s.state.cells s.marks m l).marks
      → Measures t s.state every l after
  unfolding S.open_call
  open_left l e after es em =
      call_measures t s.state every (fits_open s.state l) false s.marks m l e (open_length s.state l (open_fits_lem s.state l e)) after es em

  abbrev Opens : Call → Effect → Type 0
  Opens c e = LentBy s c e → AcceptedBy s c e → Measures t s.state every (or_else c.sheet s.sheet) (step_by s c e)

  opens_so : (st : Option Storage) (l : Option (List ℕ)) (o : Op) → Opens (call st l o) (Effect.opens_sheet t m)
  unfolding left_by given result sheeted unfit
  opens_so none none o w e = open_left s.sheet e (step_by s (call none none o) (Effect.opens_sheet t m)) refl refl
  opens_so none (some l) o w e =
      open_left l e (step_by s (call none (some l) o) (Effect.opens_sheet t m))
      (ap (λ (a : Bool). own_after (some l) a s.sheet (S.open_call t s.state.volume s.state.cells s.marks m l).sheet) e) refl
  opens_so (some st) l o w e = absurd (both_ways _ w (open_fits_lem (joined s.state.volume st) (or_else l s.sheet) e))

  pub open_measures : (c : Call) → effect_of c.op ≡ Effect.opens_sheet t m → Lent s c → accepted s c ≡ true
      → Measures t s.state every (or_else c.sheet s.sheet) (step s c)
  unfolding step accepted Lent
  open_measures c p = subst (Opens c) (sym p) (opens_so c.storage c.sheet c.op)

-- ---- refresh, accepted: on the four's own lists

refresh-length : (a : State) (l : List ℕ) → refresh_fits (sections (shape a)) (length a.cells) (length a.log) (length a.last) (length l) ≡ true
    → length l ≡ sections (shape a) * 3
unfolding refresh_fits
refresh-length a l e =
    let n = sections (shape a) in
    let p = both (eqb (length a.cells) (n * 4096)) (eqb (length a.log) n && (eqb (length a.last) n && eqb (length l) (n * 3))) e in
    let q = both (eqb (length a.log) n) (eqb (length a.last) n && eqb (length l) (n * 3)) p.1 in
    eqb-true _ _ (both (eqb (length a.last) n) (eqb (length l) (n * 3)) q.1).1

module _ (s : Four) (t : Terms) (m : List ℕ) where
  abbrev due : State → ℕ → Bool
  due a = todo (shape a) a.log a.last s.marks.sheet a.volume.generation

  abbrev fits_refresh : State → List ℕ → Bool
  fits_refresh a l = refresh_fits (sections (shape a)) (length a.cells) (length a.log) (length a.last) (length l)

  abbrev done_refresh : State → List ℕ → Type 0
  done_refresh a l = is_done (S.refresh_call t a.volume a.cells a.log a.last s.marks m l).verdict ≡ true

  pub refresh-passed : (a : State) (l : List ℕ) → done_refresh a l
      → Passed t a.volume (look (shape a) a.cells) (due a) (fits_refresh a l) (ltb a.volume.generation s.marks.sheet)
  unfolding S.refresh_call
  refresh-passed a l e = call-passed t a (due a) (fits_refresh a l) (ltb a.volume.generation s.marks.sheet) s.marks m l e

  refresh-left : done_refresh s.state s.sheet → (after : Four)
      → after.sheet ≡ (S.refresh_call t s.state.volume s.state.cells s.state.log s.state.last s.marks m s.sheet).sheet
      → after.marks ≡ (S.refresh_call t s.state.volume s.state.cells s.state.log s.state.last s.marks m s.sheet).marks
      → Measures t s.state (due s.state) s.sheet after
  unfolding S.refresh_call
  refresh-left e after es em =
      call_measures t s.state (due s.state) (fits_refresh s.state s.sheet) (ltb s.state.volume.generation s.marks.sheet) s.marks m s.sheet e
      (refresh-length s.state s.sheet (refresh-passed s.state s.sheet e).fits-is) after es em

  abbrev Refreshes : Call → Effect → Type 0
  Refreshes c e = LentBy s c e → AcceptedBy s c e → Measures t s.state (due s.state) s.sheet (step_by s c e) × (s.marks.sheet ≤ s.state.volume.generation)

  refreshes_so : (st : Option Storage) (l : Option (List ℕ)) (o : Op) → Refreshes (call st l o) (Effect.refreshes t m)
  unfolding left_by given result sheeted unfit
  refreshes_so none none o w e =
      (refresh-left e (step_by s (call none none o) (Effect.refreshes t m)) refl refl, ltb-false _ _ (refresh-passed s.state s.sheet e).behind)
  refreshes_so none (some l) o w e = absurd (both_ways _ w.1 (refresh-passed s.state l e).fits-is)
  refreshes_so (some st) l o w e = absurd (both_ways _ w.0 (refresh-passed (joined s.state.volume st) (or_else l s.sheet) e).fits-is)

  pub refresh_measures : (c : Call) → effect_of c.op ≡ Effect.refreshes t m → Lent s c → accepted s c ≡ true
      → Measures t s.state (due s.state) s.sheet (step s c) × (s.marks.sheet ≤ s.state.volume.generation)
  unfolding step accepted Lent
  refresh_measures c p = subst (Refreshes c) (sym p) (refreshes_so c.storage c.sheet c.op)
