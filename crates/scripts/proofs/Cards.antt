-- A rate and a cut of the program, beside the page: the sheet has nothing to show until it is opened anew.
use mathlib.Core.Path.{◌≡◌, refl, sym, ap, ◌∙◌, subst}
use mathlib.Core.Bool.{Bool, true, false, cond, ◌&&◌, true≢false}
use mathlib.Core.List.{List}
use mathlib.Core.Option.{Option, none, some}
use Prim.Native.Nat.{ℕ}
use native.Mathlib.Omega.{arith}
use borrow.Author.Tests.{leb-true, lt-ltb}
use lib.Dec.{leb, ltb}
use lib.ListN.{length, length-set, set}
use Rattle.stand.specs.Storage.{Storage}
use Rattle.stand.proofs.Tests.{by-test}
use Rattle.sheet.specs.Card.{Terms}
use Rattle.ledger.specs.Book.{Book}
use Rattle.interpreter.specs.Room.{Lists}
use Rattle.interpreter.specs.Run.{After, after_of, cut_step, listed, machine_of, rate_step, rated_of, turn_of, with_rates}
use Rattle.interpreter.specs.declared.Machine.{Machine}
use Rattle.interpreter.specs.declared.Reply.TheVariants as R
use Rattle.scripts.specs.Page.{Page}
use Rattle.scripts.proofs.Standing.{Holds, Standing}

abbrev HoldsAfter : After → Page → Type 0
HoldsAfter a p = Holds a.turn.machine a.lists p

stale_stands : (m : Machine) (s : Storage) (t t' : Terms) (sheet : List ℕ) (c : ℕ) (b : Option Book)
    → Standing m s t sheet b → Standing (machine_of m.volume m.marks true c) s t' sheet b
unfolding Standing
stale_stands m s t t' sheet c none w = w
stale_stands m s t t' sheet c (some b) w =
    record { n = w.n; n_is = w.n_is; few = w.few; tells = w.tells; shows = λ f. absurd (true≢false f); payable = λ f. absurd (true≢false f) }

-- the program's list has the rates of all finishes up to 63
pub listed-is : (f : ℕ) (rates : List ℕ) → length rates ≡ 64 → listed f rates ≡ (leb 1 f && leb f 63)
unfolding listed
listed-is f rates e = ap (λ (x : Bool). leb 1 f && x) (by-test (leb f 63) (λ h. ap (λ (x : Bool). x && ltb f (length rates)) h ∙ below h ∙ sym h) (λ h. rw h))
  where
    below : leb f 63 ≡ true → ltb f (length rates) ≡ true
    below h = lt-ltb f (length rates) (omega (arith, leb-true f 63 h))

module _ (m : Machine) (l : Lists) (p : Page) (h : Holds m l p) where
  pub cut_holds : (c : ℕ) → HoldsAfter (after_of (cut_step m c) l) (record { book = p.book; rates = p.rates; cut = c })
  unfolding cut_step
  cut_holds c =
      record {
        full = h.full;
        rated = h.rated;
        rows = h.rows;
        rates_are = h.rates_are;
        cut-is = refl;
        standing = stale_stands m l.storage _ _ l.sheet c p.book h.standing;
      }

  module _ (f r : ℕ) where
    abbrev page_with : Bool → Page
    page_with x = record { book = p.book; rates = cond x (set p.rates f r) p.rates; cut = p.cut }

    abbrev lists_with : Bool → After
    lists_with x =
        with_rates l
        (cond x (rated_of (turn_of (machine_of m.volume m.marks true m.cut) R.Quiet) (set l.rates f r)) (rated_of (turn_of m (R.Refused 12)) l.rates))

    by_listed : (x : Bool) → HoldsAfter (lists_with x) (page_with x)
    by_listed true =
        record {
          full = h.full;
          rated = length-set l.rates f r ∙ h.rated;
          rows = h.rows;
          rates_are = ap (λ (k : List ℕ). set k f r) h.rates_are;
          cut-is = h.cut-is;
          standing = stale_stands m l.storage _ _ l.sheet m.cut p.book h.standing;
        }
    by_listed false = h

    pub rate_holds : HoldsAfter (with_rates l (rate_step m l.rates f r)) (page_with (leb 1 f && leb f 63))
    unfolding rate_step
    rate_holds = subst (λ (x : Bool). HoldsAfter (lists_with x) (page_with (leb 1 f && leb f 63))) (sym (listed-is f l.rates h.rated)) (by_listed (leb 1 f && leb f 63))
