-- A refresh of the program: the sheet opened anew or refreshed, and what it then shows.
use mathlib.Core.Path.{◌≡◌, refl, sym, ap, ◌∙◌}
use mathlib.Core.Bool.{Bool, true, false, true≢false}
use mathlib.Core.List.{List}
use Prim.Native.Nat.{ℕ, suc, ◌≤◌, ◌<◌}
use Rattle.stand.specs.Edit.{look}
use Rattle.stand.specs.Shape.{Shape, sections}
use Rattle.stand.specs.Storage.{shape}
use Rattle.stand.proofs.Tests.{by-test}
use Rattle.sheet.specs.Calls as C
use Rattle.sheet.specs.Calls.{every}
use Rattle.sheet.specs.Card.{Terms, limit}
use Rattle.sheet.specs.Due.{todo}
use Rattle.sheet.specs.Row.{priced}
use Rattle.sheet.specs.declared.Marks.{Marks}
use Rattle.ledger.specs.Book.{Book}
use Rattle.ledger.specs.Calls.{Four, Op, accepted, given, is_done, left_by, own, result, sheeted, step}
use Rattle.ledger.specs.Claim.{Lent}
use Rattle.ledger.proofs.Accepted.{by_measuring}
use Rattle.ledger.proofs.Measured.{Measures, mark_count}
use Rattle.ledger.proofs.Opened.{shows_opened, shows_refreshed}
use Rattle.ledger.proofs.Sheeted.{open_measures, refresh_measures}
use Rattle.ledger.proofs.Shows.{Shows}
use Rattle.ledger.proofs.Since.{todo-none}
use Rattle.ledger.proofs.Tells.{Tells}
use Rattle.scripts.proofs.Payable.{Payable, priced_looks}

-- the sheet shows the book, up to its count, by a cut within its limit and a rate for every visible face
pub record Anew (t : Terms) (b : Book) (mark : ℕ) (l : List ℕ) : Type 0 where
  pub shows : Shows t mark l b
  pub mark_is : mark ≡ b.count
  pub cut_in : t.cut ≤ limit
  pub priced-all : (i : ℕ) → i < sections b.shape → priced t.rates t.beyond b.shape b.look i ≡ true

module _ (f : Four) (b : Book) (k : Tells f.state b) (t : Terms) (mask : List ℕ) where
  -- of the state it is priced, so it is of the book
  pub priced-book : (i : ℕ) → priced t.rates t.beyond b.shape b.look i ≡ priced t.rates t.beyond (shape f.state) (look (shape f.state) f.state.cells) i
  priced-book i =
      sym
      (ap (λ (g : Shape). priced t.rates t.beyond g (look (shape f.state) f.state.cells) i) k.shape_is
      ∙ priced_looks t.beyond b.shape (look (shape f.state) f.state.cells) b.look t.rates i k.cells_are)

  -- those picked were priced now, the others before
  priced_after : {p : ℕ → Bool} {from : List ℕ} {after : Four} → Measures t f.state p from after
      → ((i : ℕ) → i < sections b.shape → p i ≡ false → priced t.rates t.beyond b.shape b.look i ≡ true)
      → (i : ℕ) → i < sections b.shape → priced t.rates t.beyond b.shape b.look i ≡ true
  priced_after {p} m kept i h = by-test (p i) (λ e. priced-book i ∙ m.priced-is i (rw k.shape_is h) e) (kept i h)

  open_lent : Lent f (own (Op.open_sheet t mask))
  unfolding Lent
  open_lent = tt

  refresh-lent : Lent f (own (Op.refresh t mask))
  unfolding Lent
  refresh-lent = (tt, tt)

  abbrev pub open_out : C.Outcome
  open_out = C.open_call t f.state.volume f.state.cells f.marks mask f.sheet

  abbrev pub refresh_out : C.Outcome
  refresh_out = C.refresh_call t f.state.volume f.state.cells f.state.log f.state.last f.marks mask f.sheet

  -- accepted
  pub open_anew : is_done open_out.verdict ≡ true → Anew t b open_out.marks.sheet open_out.sheet
  unfolding step left_by given result sheeted accepted
  open_anew e =
      let m = open_measures f t mask (own (Op.open_sheet t mask)) refl open_lent e in
      record { shows = shows_opened f b k t mask (own (Op.open_sheet t mask)) refl open_lent e; mark_is = mark_count k m; cut_in = m.cut_in; priced-all = priced_after m (λ i h n. absurd (true≢false n)) }

  pub refresh-anew : Shows t f.marks.sheet f.sheet b → Payable t f.marks.sheet b → is_done refresh_out.verdict ≡ true → Anew t b refresh_out.marks.sheet refresh_out.sheet
  unfolding step left_by given result sheeted accepted
  refresh-anew h q e =
      let m = (refresh_measures f t mask (own (Op.refresh t mask)) refl refresh-lent e).0 in
      record {
        shows = shows_refreshed f b k t mask (own (Op.refresh t mask)) refl refresh-lent e h;
        mark_is = mark_count k m;
        cut_in = m.cut_in;
        priced-all = priced_after m (λ i li n. q i li (todo-none f.state b k f.marks.sheet h.mark_le i n));
      }

  -- refused it leaves marks and sheet; accepted it shows the book
  module _ (P : C.Outcome → Type 0)
      (back : (j : ℕ) → P (C.outcome_of (C.refused (suc j)) f.marks mask f.sheet))
      (done : (r : Marks) (l rows : List ℕ) → Anew t b r.sheet rows → P (C.outcome_of C.done r l rows)) where
    abbrev Told : C.Outcome → Type 0
    Told o = (is_done o.verdict ≡ true → Anew t b o.marks.sheet o.sheet) → P o

    pub by_opened : P open_out
    unfolding C.open_call
    by_opened =
        by_measuring t f.state.volume (look (shape f.state) f.state.cells) every f.marks mask f.sheet Told _
        (λ j h. back j) (λ h. done _ _ _ (h refl)) open_anew

    pub by_refreshed : Shows t f.marks.sheet f.sheet b → Payable t f.marks.sheet b → P refresh_out
    unfolding C.refresh_call
    by_refreshed w q =
        by_measuring t f.state.volume (look (shape f.state) f.state.cells)
        (todo (shape f.state) f.state.log f.state.last f.marks.sheet f.state.volume.generation) f.marks mask f.sheet Told _
        (λ j h. back j) (λ h. done _ _ _ (h refl)) (refresh-anew w q)
