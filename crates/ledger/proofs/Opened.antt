-- What a sheet shows: from its accepted opening on, and by each call since.
use mathlib.Core.Path.{◌≡◌, refl, sym, subst}
use mathlib.Core.Bool.{Bool, true, false, true≢false, ◌&&◌}
use mathlib.Core.List.{List}
use mathlib.Core.Option.{Option, none, some}
use Prim.Native.Nat.{ℕ}
use Rattle.stand.specs.Edit.{look}
use Rattle.stand.specs.Storage.{Lengths, State, Storage, lengths_of, shape, storage}
use Rattle.stand.proofs.Tests.{refuted}
use Rattle.sheet.specs.Calls as S
use Rattle.sheet.specs.Calls.{Outcome, every}
use Rattle.sheet.specs.Card.{Terms}
use Rattle.sheet.specs.Due.{todo}
use Rattle.ledger.specs.Book.{Book, Edit, Source, write_fill, write_set, write_source}
use Rattle.ledger.specs.Calls as C
use Rattle.ledger.specs.Calls.{Call, Effect, Four, Op, accepted, call, edited, effect_of, given, is_done, is_given, left_by, or_else, own_after, result, sheeted, source_call, step, write}
use Rattle.ledger.specs.Claim.{Keeps, KeepsTo, Lent}
use Rattle.ledger.proofs.Accepted.{by_measuring}
use Rattle.ledger.proofs.Kept.{AcceptedBy, LentBy, step_by}
use Rattle.ledger.proofs.Measured.{shows_after}
use Rattle.ledger.proofs.Sheeted.{open_measures, refresh_measures}
use Rattle.ledger.proofs.Shows.{Shows, shows_write_fill, shows_write_set}
use Rattle.ledger.proofs.Since.{todo-none}
use Rattle.ledger.proofs.Tells.{Tells, by_opening}

-- what the four show of the book
abbrev pub Showing : Terms → Four → Book → Type 0
Showing t s b = Shows t s.marks.sheet s.sheet b

-- neither opening of the stand keeps to the terms
no_opening : (t : Terms) (x : Source) → KeepsTo t (Effect.opens_stand x) → ⊥
no_opening t (Source.empty o size) h = h
no_opening t (Source.form f) h = h

-- the sheet that is the four's after a call that opened none
own-list : (P : List ℕ → Type 0) (l : Option (List ℕ)) (x : List ℕ) → P x → P (own_after l false x (or_else l x))
own-list P none x p = p
own-list P (some l) x p = p

module _ (s : Four) (b : Book) (k : Tells s.state b) where
  -- ---- the sheet's two calls, accepted

  pub shows_opened : (t : Terms) (m : List ℕ) (c : Call) → effect_of c.op ≡ Effect.opens_sheet t m → Lent s c → accepted s c ≡ true → Showing t (step s c) b
  shows_opened t m c p w e = shows_after k (open_measures s t m c p w e) (λ i h n. absurd (true≢false n))

  pub shows_refreshed : (t : Terms) (m : List ℕ) (c : Call) → effect_of c.op ≡ Effect.refreshes t m → Lent s c → accepted s c ≡ true → Showing t s b
      → Showing t (step s c) b
  shows_refreshed t m c p w e h =
      shows_after k (refresh_measures s t m c p w e).0 (λ i li n. h.right i li (todo-none s.state b k s.marks.sheet h.mark_le i n))

  -- ---- any call that keeps to the terms

  module _ (t : Terms) (h : Showing t s b) where
    abbrev Still : List ℕ → Book → Type 0
    Still x b' = Shows t s.marks.sheet x b'

    opening_shows : (st : Storage) (l : Option (List ℕ)) (x : Source) → (is_given (source_call st x).answer ≡ true → ⊥)
        → Still (own_after l false s.sheet (or_else l s.sheet)) (write_source b (lengths_of st) x)
    opening_shows st l x n =
        own-list (λ y. Still y (write_source b (lengths_of st) x)) l s.sheet
        (by_opening (λ r b'. (is_given r.answer ≡ true → ⊥) → Still s.sheet b') st b x (λ j n. h) (λ e n. absurd (n refl)) n)

    -- a measuring call refused
    abbrev IfRefused : Option (List ℕ) → Bool → Outcome → Type 0
    IfRefused l opens r = is_done r.verdict ≡ false → Shows t r.marks.sheet (own_after l (opens && is_done r.verdict) s.sheet r.sheet) b

    open_refused : (a : State) (l : Option (List ℕ)) (u : Terms) (m : List ℕ)
        → IfRefused l true (S.open_call u a.volume a.cells s.marks m (or_else l s.sheet))
    unfolding S.open_call
    open_refused a l u m =
        by_measuring u a.volume (look (shape a) a.cells) every s.marks m (or_else l s.sheet) (IfRefused l true) _
        (λ j e. own-list (λ x. Still x b) l s.sheet h) (λ e. absurd (true≢false e))

    refresh-refused : (a : State) (l : Option (List ℕ)) (u : Terms) (m : List ℕ)
        → IfRefused l false (S.refresh_call u a.volume a.cells a.log a.last s.marks m (or_else l s.sheet))
    unfolding S.refresh_call
    refresh-refused a l u m =
        by_measuring u a.volume (look (shape a) a.cells) (todo (shape a) a.log a.last s.marks.sheet a.volume.generation) s.marks m
        (or_else l s.sheet) (IfRefused l false) _
        (λ j e. own-list (λ x. Still x b) l s.sheet h) (λ e. absurd (true≢false e))

    abbrev lens : Option Storage → Lengths
    lens st = lengths_of (or_else st (storage s.state))

    abbrev After : Option Storage → Option (List ℕ) → Op → Effect → Type 0
    After st l o e = Showing t (step_by s (call st l o) e) (write b (lens st) e)

    refresh_shows : (st : Option Storage) (l : Option (List ℕ)) (u : Terms) (m : List ℕ) (a : Bool) → accepted s (call st l (Op.refresh u m)) ≡ a
        → Lent s (call st l (Op.refresh u m)) → (accepted s (call st l (Op.refresh u m)) ≡ true → u ≡ t)
        → Showing t (step s (call st l (Op.refresh u m))) b
    unfolding step left_by given result sheeted accepted
    refresh_shows st l u m true e w n =
        subst (λ (x : Terms). Showing x (step s (call st l (Op.refresh u m))) b) (n e)
        (shows_refreshed u m (call st l (Op.refresh u m)) refl w e (subst (λ (x : Terms). Showing x s b) (sym (n e)) h))
    refresh_shows st l u m false e w n = refresh-refused (given s (call st l (Op.refresh u m))).state l u m e

    shows_call : (st : Option Storage) (l : Option (List ℕ)) (o : Op) (e : Effect) → LentBy s (call st l o) e
        → (AcceptedBy s (call st l o) e → KeepsTo t e) → After st l o e
    unfolding left_by given result C.opened edited sheeted write accepted step Lent
    shows_call st l o (Effect.opens_stand x) w n = opening_shows (or_else st (storage s.state)) l x (λ a. no_opening t x (n a))
    shows_call st l o (Effect.edits (Edit.one c v)) w n =
        own-list (λ x. Still x (write_set b (lens st) c v)) l s.sheet (shows_write_set b (lens st) c v h)
    shows_call st l o (Effect.edits (Edit.box c d v)) w n =
        own-list (λ x. Still x (write_fill b (lens st) c d v)) l s.sheet (shows_write_fill b (lens st) c v h d)
    shows_call st l o (Effect.opens_sheet u m) w n = open_refused (given s (call st l o)).state l u m (sym (refuted _ n))
    shows_call st l o (Effect.refreshes u m) w n = refresh_shows st l u m (accepted s (call st l (Op.refresh u m))) refl w n
    shows_call st l o Effect.leaves w n = own-list (λ x. Still x b) l s.sheet h

pub shows_step : (s : Four) (b : Book) (c : Call) (t : Terms) → Lent s c → Keeps t s c → Tells s.state b → Showing t s b
    → Showing t (step s c) (write b (lengths_of (storage (given s c).state)) (effect_of c.op))
unfolding step given accepted Lent Keeps
shows_step s b c t w n k h = shows_call s b k t h c.storage c.sheet c.op (effect_of c.op) w n
