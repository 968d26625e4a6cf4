-- A stand filled by calls is sound, and its finishes are u16.
use mathlib.Core.Path.{◌≡◌, sym, ap, subst}
use mathlib.Core.Bool.{true, false, false≢true}
use mathlib.Core.List.{List, [], ◌∷◌}
use mathlib.Core.Option.{Option, none, some}
use Prim.Native.Nat.{ℕ, ◌*◌}
use native.Mathlib.Omega.{arith}
use borrow.Author.Tests.{not-true}
use Rattle.stand.specs.Edit.{fitting}
use Rattle.stand.specs.Opening.{Opening, opened_shape}
use Rattle.stand.specs.Shape.{Shape, opens, sections}
use Rattle.stand.specs.Sound.{Sound}
use Rattle.stand.specs.Storage.{State, Storage, fresh_state, fresh_storage, joined, lengths_of, storage, volume_of}
use Rattle.stand.proofs.Fill.{fill-call-finishes, fill-call_sound}
use Rattle.stand.proofs.Kept.{Finishes, fresh_sound, set-call-finishes, set-call_sound, zeros}
use Rattle.form.specs.Calls.{load_call, loaded}
use Rattle.form.specs.Entries.{loaded_storage}
use Rattle.form.specs.Form.{count_in, entries_in, head_shape}
use Rattle.form.proofs.Keeping.{keeping}
use Rattle.ledger.specs.Book.{Book, Edit, Form, Source, source_book}
use Rattle.ledger.specs.Calls as C
use Rattle.ledger.specs.Calls.{Call, Effect, Four, Op, accepted, call, edit_call, edited, effect_of, given, header_after, is_given, left_by, or_else, own_after, result, run, sheeted, source_call, step, unfit}
use Rattle.ledger.specs.Claim.{All, Lent, Start, four_after}
use Rattle.ledger.proofs.Kept.{AcceptedBy, LentBy, step_by}
use Rattle.ledger.proofs.Lent.{fill-lent, set-lent}
use Rattle.ledger.proofs.Tells.{by_opening, open_passed, source_header, source_refusal, source_storage}
use Rattle.digests.specs.Digests.{AllTyped, ByCalls, Typed, stand_of}

-- sound, with finishes of u16
pub record Good (s : State) : Type 0 where
  pub sound : Sound s
  pub finishes : Finishes s.cells

-- ---- opening and loading

good-fresh : (g : Shape) → opens g ≡ true → Good (fresh_state g)
unfolding fresh_state fresh_storage
good-fresh g o = record { sound = fresh_sound g o; finishes = λ k. omega (arith, zeros (sections g * 4096) k) }

good-loaded : (f : Form) (st : Storage) → source_refusal (Source.form f) (lengths_of st) ≡ 0
    → Good (joined (volume_of (head_shape f.bytes) 0 (count_in f.bytes)) (loaded_storage (head_shape f.bytes) (entries_in f.bytes)))
unfolding load_call loaded
good-loaded f st e =
    let v = volume_of (head_shape f.bytes) 0 (count_in f.bytes) in
    let p = ap (λ (n : ℕ). loaded n st f.bytes) e in
    let a = ap (λ (r : Opening). r.answer) p in
    record {
      sound = subst (λ (r : Opening). Sound (joined v r.storage)) p (keeping.loaded_sound st f.bytes v f.typed a);
      finishes = subst (λ (r : Opening). Finishes r.storage.cells) p (keeping.only_stored st f.bytes v f.typed a).0.finishes;
    }

-- either, on any storage
good-source : (x : Source) (st : Storage) → source_refusal x (lengths_of st) ≡ 0 → Good (joined (source_header x) (source_storage x))
unfolding fresh_state
good-source (Source.empty o size) st e = good-fresh (opened_shape o.cell size) (open_passed o.cell size (lengths_of st) e).0
good-source (Source.form f) st e = good-loaded f st e

module _ (s : Four) where
  -- the state that an opening leaves
  abbrev Left : Option Storage → Opening → Type 0
  Left st r = Good (joined (header_after r.answer s.state.volume) (own_after st (is_given r.answer) (storage s.state) r.storage))

  abbrev Opens : Option Storage → Opening → Book → Type 0
  Opens st r b = is_given r.answer ≡ true → Left st r

  -- accepted
  opened-good : (st : Option Storage) (x : Source) → Opens st (source_call (or_else st (storage s.state)) x) (source_book x)
  opened-good none x = by_opening (Opens none) (storage s.state) (source_book x) x (λ k e. absurd (false≢true e)) (λ z e. good-source x (storage s.state) z)
  opened-good (some st) x = by_opening (Opens (some st)) st (source_book x) x (λ k e. absurd (false≢true e)) (λ z e. good-source x st z)

  -- ---- any call on a good state

  module _ (q : Good s.state) where
    opening-good : (st : Option Storage) (x : Source) → Left st (source_call (or_else st (storage s.state)) x)
    opening-good none x = by_opening (λ r b. Left none r) (storage s.state) (source_book x) x (λ k. q) (λ z. good-source x (storage s.state) z)
    opening-good (some st) x = by_opening (λ r b. Left (some st) r) st (source_book x) x (λ k. q) (λ z. good-source x st z)

    edit_good : (e : Edit) → Typed (Effect.edits e) → Good (edit_call s.state e).state
    edit_good (Edit.one c v) l =
        record { sound = set-call_sound s.state c v q.sound; finishes = set-call-finishes s.state c v l q.finishes }
    edit_good (Edit.box c d v) l =
        record { sound = fill-call_sound s.state c d v q.sound; finishes = fill-call-finishes s.state c d v l q.finishes }

    -- lent other storage, of a length that 4 refuses
    edit_other : (st : Storage) (e : Edit) → fitting (joined s.state.volume st) ≡ false
        → Good (joined (edit_call (joined s.state.volume st) e).state.volume (storage s.state))
    edit_other st (Edit.one c v) u = rw (set-lent (joined s.state.volume st) c v u) q
    edit_other st (Edit.box c d v) u = rw (fill-lent (joined s.state.volume st) c d v u) q

    call-good : (st : Option Storage) (l : Option (List ℕ)) (o : Op) (e : Effect) → LentBy s (call st l o) e → Typed e → Good (step_by s (call st l o) e).state
    unfolding left_by given result C.opened edited sheeted unfit
    call-good st l o (Effect.opens_stand x) w t = opening-good st x
    call-good none l o (Effect.edits e) w t = edit_good e t
    call-good (some st) l o (Effect.edits e) w t = edit_other st e (not-true _ w)
    call-good none l o (Effect.opens_sheet u m) w t = q
    call-good (some st) l o (Effect.opens_sheet u m) w t = q
    call-good none l o (Effect.refreshes u m) w t = q
    call-good (some st) l o (Effect.refreshes u m) w t = q
    call-good none l o Effect.leaves w t = q
    call-good (some st) l o Effect.leaves w t = q

-- ---- a list of calls

run-good : (s : Four) (cs : List Call) → All Lent s cs → AllTyped cs → Good s.state → Good (run s cs).state
unfolding run All step Lent
run-good s [] w t q = q
run-good s (c ∷ cs) w t q = run-good (step s c) cs w.1 t.1 (call-good s q c.storage c.sheet c.op (effect_of c.op) w.0 t.0)

start-good : (a : Start) → Good (four_after a []).state
unfolding four_after run step accepted left_by given result C.opened
start-good a =
    subst (λ (e : Effect). AcceptedBy a.four a.first e → Good (step_by a.four a.first e).state) (sym a.opens)
    (first_good a.first.storage a.first.sheet a.first.op) a.is-accepted
  where
    first_good : (st : Option Storage) (l : Option (List ℕ)) (o : Op)
        → AcceptedBy a.four (call st l o) (Effect.opens_stand a.source) → Good (step_by a.four (call st l o) (Effect.opens_stand a.source)).state
    first_good st l o e = opened-good a.four st a.source e

pub by_calls-good : (f : ByCalls) → Good (stand_of f)
unfolding four_after run
by_calls-good f = run-good (four_after f.start []) f.calls f.lent f.typed (start-good f.start)
