-- A refresh of the program, beside the page: the sheet it leaves, and the line it prints.
use mathlib.Core.Path.{◌≡◌, refl, sym, ap, ◌∙◌, subst}
use mathlib.Core.Bool.{Bool, true, false, cond}
use mathlib.Core.List.{List}
use mathlib.Core.Option.{Option, none, some}
use Prim.Native.Nat.{ℕ, suc, ◌*◌}
use native.Mathlib.Omega.{arith}
use lib.ListN.{drop, length, take, take-append-drop}
use Rattle.stand.specs.Refusal.{first}
use Rattle.stand.specs.Shape.{well_formed}
use Rattle.stand.specs.Storage.{Storage, joined}
use Rattle.stand.specs.declared.volume.Volume.{Volume}
use Rattle.sheet.specs.Calls as C
use Rattle.sheet.specs.Calls.{measure_refusal, measuring, totals_call}
use Rattle.sheet.specs.Card.{Terms}
use Rattle.sheet.specs.declared.Marks.{Marks}
use Rattle.sheet.specs.declared.Row.{Row}
use Rattle.ledger.specs.Book.{Book}
use Rattle.ledger.specs.Calls.{Four}
use Rattle.ledger.specs.Claim.{book_sums}
use Rattle.ledger.proofs.Right.{face_once, right}
use Rattle.ledger.proofs.Shows.{Shows}
use Rattle.interpreter.specs.Run.{Priced, front, held, measure_call, price_reply, priced, priced_of, refresh_step, refresh_with, terms_in, turn_of}
use Rattle.interpreter.specs.declared.Machine.{Machine}
use Rattle.interpreter.specs.declared.Reply.TheVariants as R
use Rattle.scripts.specs.Quotes.{Fair}
use Rattle.scripts.proofs.Fronts.{Full, length_back, part_back}
use Rattle.scripts.proofs.Lending.{held_none}
use Rattle.scripts.proofs.Refreshing.{Anew, by_opened, by_refreshed}
use Rattle.scripts.proofs.Standing.{Standing, Stands, held-is}

refusal : (n generation : ℕ) (row : Row) → R.Refused n ≡ R.Price generation row → ⊥
refusal n generation row e = let z : ◌≡◌ {A = ℕ} 0 1 = cc in absurd (omega arith)

-- a refresh keeps the stand's book, and its price line is fair
pub record Quoted (m : Machine) (s : Storage) (rates : List ℕ) (b : Option Book) (p : Priced) : Type 0 where
  pub rows : length p.sheet ≡ 12
  pub cut-is : p.turn.machine.cut ≡ m.cut
  pub standing : Standing p.turn.machine s (terms_in m rates) p.sheet b
  pub fair : (generation : ℕ) (row : Row) → p.turn.reply ≡ R.Price generation row → Fair (record { book = b; rates = rates; cut = m.cut }) generation row

module _ (m : Machine) (s : Storage) (rates mask sheet : List ℕ) (u : Full s) (q : length sheet ≡ 12) where
  abbrev terms : Terms
  terms = terms_in m rates

  abbrev Line : Option Book → Priced → Type 0
  Line b p = Quoted m s rates b p

  -- refused, n sections lent
  refused_line : (n j : ℕ) (b : Option Book) → Standing m s terms sheet b
      → Line b (priced n m sheet (C.outcome_of (C.refused j) m.marks mask (take (n * 3) sheet)))
  refused_line n j b w =
      subst (λ (x : List ℕ). Line b (priced_of (turn_of m (R.Refused j)) mask x)) (sym (take-append-drop (n * 3) sheet))
      (record { rows = q; cut-is = refl; standing = w; fair = λ generation row e. absurd (refusal j generation row e) })

  -- ---- a stand with its book

  module _ (b : Book) (w : Stands m s terms sheet b) where
    abbrev four : Marks → List ℕ → Four
    four r rows = record { state = joined m.volume (front w.n s); marks = r; sheet = rows }

    module _ (r : Marks) (rows : List ℕ) (a : Anew terms b r.sheet rows) where
      rows_are : length rows ≡ w.n * 3
      rows_are = a.shows.length-is ∙ ap (λ n. n * 3) (sym w.n_is)

      -- totals refuses nothing, and answers the sums
      pub totalled : price_reply m.volume.generation (totals_call m.volume rows) ≡ R.Price b.count (book_sums terms b)
      totalled =
          ap (price_reply m.volume.generation) (right terms (four r rows) b w.tells a.shows a.mark_is).totals_are
          ∙ ap (λ n. R.Price n (book_sums terms b)) w.tells.count-is

      fair_line : (generation : ℕ) (row : Row) → price_reply m.volume.generation (totals_call m.volume rows) ≡ R.Price generation row
          → Fair (record { book = some b; rates = rates; cut = m.cut }) generation row
      fair_line generation row p =
          let line : R.Price b.count (book_sums terms b) ≡ R.Price generation row = sym totalled ∙ p in
          let c : b.count ≡ generation = cc in
          let d : book_sums terms b ≡ row = cc in
          record {
            book = b;
            stand = refl;
            count-is = sym c;
            sums_are = sym d;
            faces_once = face_once terms b w.tells.opened;
            cut-within = a.cut_in;
            rated = a.priced-all;
          }

      done : (l : List ℕ) → Line (some b) (priced w.n m sheet (C.outcome_of C.done r l rows))
      unfolding Standing
      done l =
          record {
            rows = length_back (w.n * 3) 12 rows sheet rows_are (omega (arith, w.few)) q;
            cut-is = refl;
            standing =
                record {
                  n = w.n;
                  n_is = w.n_is;
                  few = w.few;
                  tells = w.tells;
                  shows = λ _. subst (λ (x : List ℕ). Shows terms r.sheet x b) (sym (part_back (w.n * 3) rows (drop (w.n * 3) sheet) rows_are)) a.shows;
                  payable = λ _ i h _. a.priced-all i h;
                };
            fair = fair_line;
          }

    abbrev now : Four
    now = four m.marks (take (w.n * 3) sheet)

    abbrev After : C.Outcome → Type 0
    After o = Line (some b) (priced w.n m sheet o)

    back : (j : ℕ) → After (C.outcome_of (C.refused (suc j)) m.marks mask (take (w.n * 3) sheet))
    unfolding Standing
    back j = refused_line w.n (suc j) (some b) w

    onward : (r : Marks) (l rows : List ℕ) → Anew terms b r.sheet rows → After (C.outcome_of C.done r l rows)
    onward r l rows a = done r rows a l

    measured : Line (some b) (refresh_with w.n m s rates mask sheet)
    unfolding refresh_with measure_call
    measured = go m.stale refl
      where
        go : (x : Bool) → m.stale ≡ x
            → After (cond x (C.open_call terms m.volume now.state.cells m.marks mask now.sheet)
            (C.refresh_call terms m.volume now.state.cells now.state.log now.state.last m.marks mask now.sheet))
        go true e = by_opened now b w.tells terms mask After back onward
        go false e = by_refreshed now b w.tells terms mask After back onward (w.shows e) (w.payable e)

  -- ---- any stand

  -- before the first opening 3 refuses it
  pub ill : (stale : Bool) (v : Volume) (cells log last rows : List ℕ) → well_formed v ≡ false
      → cond stale (C.open_call terms v cells m.marks mask rows) (C.refresh_call terms v cells log last m.marks mask rows)
      ≡ C.outcome_of (C.refused 3) m.marks mask rows
  unfolding C.open_call C.refresh_call measure_refusal measuring first
  ill true v cells log last rows f = rw f
  ill false v cells log last rows f = rw f

  pub quoted : (b : Option Book) → Standing m s terms sheet b → Quoted m s rates b (refresh_step m s rates mask sheet)
  unfolding Standing refresh_step refresh_with measure_call
  quoted none f =
      subst (λ n. Line none (refresh_with n m s rates mask sheet)) (sym (ap (held m s) q ∙ held_none m s u f))
      (subst (λ (o : C.Outcome). Line none (priced 0 m sheet o)) (sym (ill m.stale m.volume (take 0 s.cells) (take 0 s.log) (take 0 s.last) (take 0 sheet) f))
      (refused_line 0 3 none f))
  quoted (some b) w = subst (λ n. Line (some b) (refresh_with n m s rates mask sheet)) (sym (held-is w u (length sheet) q)) (measured b w)
