-- The steps of the calls, by unfolding; a call refused, or that writes none of the four, leaves them.
use Prim.Native.Nat.{ℕ}
use mathlib.Core.Path.{◌≡◌, refl, sym, subst}
use mathlib.Core.Bool.{true, false, true≢false}
use mathlib.Core.List.{List}
use mathlib.Core.Option.{Option, none, some}
use Rattle.stand.specs.Edit.{fitting, look, set_call, set_def, set_refusal}
use Rattle.stand.specs.Fill.{fill_call, fill_def, fill_refusal}
use Rattle.stand.specs.Opening.{Opening}
use Rattle.stand.specs.Shape.{well_formed}
use Rattle.stand.specs.Storage.{Outcome, State, Storage, joined, shape, storage}
use Rattle.stand.proofs.Edit.{by_edited}
use Rattle.stand.proofs.Tests.{by-test}
use Rattle.sheet.specs.Calls as S
use Rattle.sheet.specs.Calls.{every}
use Rattle.sheet.specs.Card.{Terms}
use Rattle.sheet.specs.Due.{todo}
use Rattle.ledger.specs.Book.{Edit, Source, source_book}
use Rattle.ledger.specs.Calls as C
use Rattle.ledger.specs.Calls.{Effect, Four, Op, accepted, call, edit_call, edited, effect_of, given, left_by, or_else, own_after, result, sheeted, source_call, step, unfit}
use Rattle.ledger.specs.Steps.{Steps}
use Rattle.ledger.proofs.Accepted.{by_measuring}
use Rattle.ledger.proofs.Following.{unfit-refused}
use Rattle.ledger.proofs.Kept.{step_by}
use Rattle.ledger.proofs.Tells.{by_opening}

-- ---- the four kept, whatever a call was lent

abbrev stay : Four → Option Storage → Option (List ℕ) → Four
stay s st l =
    record {
      state = joined s.state.volume (own_after st false (storage s.state) (or_else st (storage s.state)));
      marks = s.marks;
      sheet = own_after l false s.sheet (or_else l s.sheet);
    }

stays : (s : Four) (st : Option Storage) (l : Option (List ℕ)) → stay s st l ≡ s
stays s none none = refl
stays s none (some x) = refl
stays s (some x) none = refl
stays s (some x) (some y) = refl

-- ---- a call refused

module _ (s : Four) (st : Option Storage) (l : Option (List ℕ)) (o : Op) where
  abbrev lent : State
  lent = joined s.state.volume (or_else st (storage s.state))

  abbrev Left : C.Result → Type 0
  Left r = r.accepted ≡ false → left_by s (call st l o) r ≡ s

  opening-left : (x : Source) → Left (C.opened (given s (call st l o)) (source_call (or_else st (storage s.state)) x))
  unfolding C.opened left_by given
  opening-left x =
      by_opening (λ (r : Opening) b. Left (C.opened (given s (call st l o)) r)) (or_else st (storage s.state)) (source_book x) x (λ k e. stays s st l)
      (λ z e. absurd (true≢false e))

  edit_left : (e : Edit) → Left (edited (given s (call st l o)) (edit_call lent e))
  unfolding edited set_call fill_call left_by given
  edit_left (Edit.one c v) =
      by_edited (λ (r : Outcome ℕ). Left (edited (given s (call st l o)) r))
      (set_refusal (well_formed lent.volume) (fitting lent) (shape lent) lent.volume.generation (look (shape lent) lent.cells c) c v) lent
      (set_def lent c v) (λ k q e. stays s st l) (λ z e. absurd (true≢false e))
  edit_left (Edit.box c d v) =
      by_edited (λ (r : Outcome ℕ). Left (edited (given s (call st l o)) r))
      (fill_refusal (well_formed lent.volume) (fitting lent) (shape lent) lent.volume.generation c d) lent
      (fill_def lent c d v) (λ k q e. stays s st l) (λ z e. absurd (true≢false e))

  open_sheet-left : (t : Terms) (m : List ℕ)
      → Left (sheeted (given s (call st l o)) true (S.open_call t lent.volume lent.cells s.marks m (or_else l s.sheet)))
  unfolding sheeted S.open_call left_by given
  open_sheet-left t m =
      by_measuring t lent.volume (look (shape lent) lent.cells) every s.marks m (or_else l s.sheet)
      (λ (r : S.Outcome). Left (sheeted (given s (call st l o)) true r)) _
      (λ j e. stays s st l) (λ e. absurd (true≢false e))

  refresh-left : (t : Terms) (m : List ℕ)
      → Left (sheeted (given s (call st l o)) false (S.refresh_call t lent.volume lent.cells lent.log lent.last s.marks m (or_else l s.sheet)))
  unfolding sheeted S.refresh_call left_by given
  refresh-left t m =
      by_measuring t lent.volume (look (shape lent) lent.cells) (todo (shape lent) lent.log lent.last s.marks.sheet lent.volume.generation)
      s.marks m (or_else l s.sheet) (λ (r : S.Outcome). Left (sheeted (given s (call st l o)) false r)) _
      (λ j e. stays s st l) (λ e. absurd (true≢false e))

  refused-left : (e : Effect) → Left (result (given s (call st l o)) e)
  unfolding given result left_by
  refused-left (Effect.opens_stand x) e = opening-left x e
  refused-left (Effect.edits d) e = edit_left d e
  refused-left (Effect.opens_sheet t m) e = open_sheet-left t m e
  refused-left (Effect.refreshes t m) e = refresh-left t m e
  refused-left Effect.leaves e = stays s st l

  left-all : step_by s (call st l o) Effect.leaves ≡ s
  unfolding given result left_by
  left-all = stays s st l

  unfit-left : (e : Effect) → unfit (given s (call st l o)) e ≡ true → step_by s (call st l o) e ≡ s
  unfit-left e u =
      by-test (result (given s (call st l o)) e).accepted
      (λ a. subst (λ (x : Effect). step_by s (call st l o) x ≡ s) (sym (unfit-refused (given s (call st l o)) e u a)) left-all)
      (refused-left e)

-- ---- together

pub steps : (s : Four) → Steps s
unfolding step accepted given result left_by C.opened edited sheeted
steps s =
    record {
      open_stand = λ o size. record { is-accepted = refl; four = refl };
      load-stand = λ f. record { is-accepted = refl; four = refl };
      set = λ c v. record { is-accepted = refl; four = refl };
      set-lent = λ c v. record { is-accepted = refl; four = refl };
      fill = λ c d v. record { is-accepted = refl; four = refl };
      open_sheet = λ t m. record { is-accepted = refl; four = refl };
      refresh = λ t m. record { is-accepted = refl; four = refl };
      totals = λ c e. subst (λ (x : Op). step_by s c (effect_of x) ≡ s) (sym e) (left-all s c.storage c.sheet c.op);
      reads = λ c r e. subst (λ (x : Op). step_by s c (effect_of x) ≡ s) (sym e) (left-all s c.storage c.sheet c.op);
      leaves = λ c e. subst (λ (x : Effect). step_by s c x ≡ s) (sym e) (left-all s c.storage c.sheet c.op);
      refused-leaves = λ c e. refused-left s c.storage c.sheet c.op (effect_of c.op) e;
      unfit-leaves = λ c u. unfit-left s c.storage c.sheet c.op (effect_of c.op) u;
    }
