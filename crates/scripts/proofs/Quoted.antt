-- Every price line of the trial program is fair.
use mathlib.Core.Path.{◌≡◌, refl, sym, ap, ◌∙◌, subst}
use mathlib.Core.Bool.{true}
use mathlib.Core.List.{List, [], ◌∷◌}
use mathlib.Core.Option.{Option}
use Prim.Native.Nat.{ℕ}
use lib.ListN.{length, length-replicate}
use Rattle.stand.specs.Shape.{axis_good, good, well_formed}
use Rattle.stand.specs.Storage.{Storage}
use Rattle.sheet.specs.Card.{terms_of}
use Rattle.sheet.specs.declared.Row.{Row}
use Rattle.ledger.specs.Book.{Book}
use Rattle.interpreter.specs.Room.{Lists}
use Rattle.interpreter.specs.Run.{Edited, Priced, refresh_step, run_step, terms_in, with_prices, with_storage}
use Rattle.interpreter.specs.Start.{start_machine, unset}
use Rattle.interpreter.specs.declared.Call.{Call}
use Rattle.interpreter.specs.declared.Call.TheVariants as K
use Rattle.interpreter.specs.declared.Machine.{Machine}
use Rattle.interpreter.specs.declared.Reply.TheVariants as R
use Rattle.scripts.specs.Page.{Page, blank, page_of, with_book, write}
use Rattle.scripts.specs.Quotes.{AllTyped, Fair, Held, Lent, Quotes, Typed, held_after, run_all}
use Rattle.scripts.proofs.Cards.{cut_holds, rate_holds}
use Rattle.scripts.proofs.Edits.{Kept, fill-kept, set-kept}
use Rattle.scripts.proofs.Openings.{open_kept}
use Rattle.scripts.proofs.Pricing.{Quoted, quoted}
use Rattle.scripts.proofs.Standing.{Holds, Standing}

-- terms are the card as it is now
same-cut : (m m' : Machine) (s : Storage) (rates sheet : List ℕ) (b : Option Book) → m'.cut ≡ m.cut
    → Standing m' s (terms_in m rates) sheet b → Standing m' s (terms_in m' rates) sheet b
same-cut m m' s rates sheet b e = subst (λ c. Standing m' s (terms_of rates c true) sheet b) (sym e)

-- ---- one call

module _ (m : Machine) (l : Lists) (p : Page) (h : Holds m l p) where
  edit_holds : (e : Edited) (b : Option Book) → Kept e m (terms_in m l.rates) l.sheet b
      → Holds (with_storage l e).turn.machine (with_storage l e).lists (with_book p b)
  edit_holds e b k =
      record {
        full = k.full;
        rated = h.rated;
        rows = h.rows;
        rates_are = h.rates_are;
        cut-is = k.cut-is ∙ h.cut-is;
        standing = same-cut m e.turn.machine e.storage l.rates l.sheet b k.cut-is k.standing;
      }

  price_holds : (x : Priced) → Quoted m l.storage l.rates p.book x → Holds (with_prices l x).turn.machine (with_prices l x).lists p
  price_holds x k =
      record {
        full = h.full;
        rated = h.rated;
        rows = k.rows;
        rates_are = h.rates_are;
        cut-is = k.cut-is ∙ h.cut-is;
        standing = same-cut m x.turn.machine l.storage l.rates x.sheet p.book k.cut-is k.standing;
      }

  line : Quoted m l.storage l.rates p.book (refresh_step m l.storage l.rates l.mask l.sheet)
  line = quoted m l.storage l.rates l.mask l.sheet h.full h.rows p.book h.standing

  pub call-holds : (c : Call) → Typed c → Holds (run_step m l c).turn.machine (run_step m l c).lists (write p c)
  unfolding run_step write Typed
  call-holds (K.Open o size) r = edit_holds _ _ (open_kept m l.storage (terms_in m l.rates) l.sheet h.full o size _ h.rows r p.book h.standing)
  call-holds (K.Set c v) _ = edit_holds _ _ (set-kept m l.storage (terms_in m l.rates) l.sheet h.full _ h.rows c v p.book h.standing)
  call-holds (K.Fill c d v) _ = edit_holds _ _ (fill-kept m l.storage (terms_in m l.rates) l.sheet h.full _ h.rows c d v p.book h.standing)
  call-holds K.Refresh _ = price_holds _ line
  call-holds (K.Rate f r) _ = rate_holds m l p h f r
  call-holds (K.Cut c) _ = cut_holds m l p h c

  -- a price line is that of the page
  pub line_fair : (generation : ℕ) (row : Row) → (run_step m l K.Refresh).turn.reply ≡ R.Price generation row → Fair p generation row
  unfolding run_step
  line_fair generation row e =
      subst (λ (x : Page). Fair x generation row) (λ i. record { book = p.book; rates = h.rates_are i; cut = h.cut-is i }) (line.fair generation row e)

-- ---- a list of calls

run_holds : (h : Held) (p : Page) (cs : List Call) → AllTyped cs → Holds h.machine h.lists p → Holds (run_all h cs).machine (run_all h cs).lists (page_of p cs)
unfolding run_all page_of AllTyped
run_holds h p [] t w = w
run_holds h p (c ∷ cs) t w =
    run_holds (held_after (run_step h.machine h.lists c)) (write p c) cs t.1 (call-holds h.machine h.lists p w c t.0)

pub start-holds : (l : Lists) → Lent l → Holds start_machine l blank
unfolding blank Standing well_formed good axis_good
start-holds l w =
    record {
      full = record { cells = w.cells; hashes = w.hashes; versions = w.versions; log = w.log; last = w.last };
      rated = ap length w.rates ∙ length-replicate 64 unset;
      rows = w.sheet;
      rates_are = w.rates;
      cut-is = refl;
      standing = refl;
    }

pub quotes : Quotes
unfolding Quotes
quotes l cs generation row w t e =
    line_fair _ _ (page_of blank cs) (run_holds (record { machine = start_machine; lists = l }) blank cs t (start-holds l w)) generation row e
