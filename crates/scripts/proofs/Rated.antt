-- The reply to a refresh: 12 as the whole stand's book has it, else the book's count and sums. Neither 8, 10 nor 13 is ever given.
use mathlib.Core.Path.{◌≡◌, refl, sym, ap, ◌∙◌}
use mathlib.Core.Bool.{Bool, true, false, cond, not, ◌||◌, true≢false}
use mathlib.Core.List.{List, [], ◌∷◌}
use mathlib.Core.Option.{Option, none, some}
use Prim.Native.Nat.{ℕ, zero, suc, ◌*◌, ◌≤◌, ◌<◌, max}
use native.Mathlib.Omega.{arith}
use borrow.Author.Tests.{eq-eqb, le-ltb}
use lib.Dec.{ltb}
use lib.ListN.{length, take}
use lib.Seq.{length-take-le}
use Rattle.stand.specs.Edit.{look}
use Rattle.stand.specs.Refusal.{◌⇒◌, first}
use Rattle.stand.specs.Shape.{Shape, sections, shape_of}
use Rattle.stand.specs.Storage.{Storage, joined, shape}
use Rattle.stand.specs.declared.Cell.{Cell}
use Rattle.stand.specs.declared.volume.Volume.{Volume}
use Rattle.stand.proofs.Edit.{fitting-lengths}
use Rattle.stand.proofs.Tests.{and_both, by-test}
use Rattle.mesh.specs.Merge.{all}
use Rattle.mesh.specs.Part.{largest_side, section_part}
use Rattle.sheet.specs.Calls as C
use Rattle.sheet.specs.Calls.{Verdict, all_priced, every, measure_refusal, measuring, open_fits, refresh_fits, totals_call, want_of}
use Rattle.sheet.specs.Card.{Terms, limit}
use Rattle.sheet.specs.Due.{todo}
use Rattle.sheet.specs.Row.{priced}
use Rattle.sheet.specs.declared.Marks.{Marks}
use Rattle.sheet.proofs.Fewer.{length-wiped}
use Rattle.sheet.proofs.Pricing.{all_same, section_largest}
use Rattle.ledger.specs.Book.{Book}
use Rattle.ledger.specs.Calls.{Four, is_done}
use Rattle.ledger.specs.Claim.{book_sums}
use Rattle.ledger.proofs.Accepted.{by_measuring}
use Rattle.ledger.proofs.Shows.{Shows}
use Rattle.ledger.proofs.Since.{todo-none}
use Rattle.ledger.proofs.Tells.{Tells}
use Rattle.interpreter.specs.Run.{front, held, measure_call, price_reply, priced_turn, refresh_step, refresh_with, terms_in}
use Rattle.interpreter.specs.declared.Machine.{Machine}
use Rattle.interpreter.specs.declared.Reply.{Reply}
use Rattle.interpreter.specs.declared.Reply.TheVariants as R
use Rattle.scripts.specs.Said.{all_rated, on_stand, refresh_number, refused_or}
use Rattle.scripts.proofs.Fronts.{Full}
use Rattle.scripts.proofs.Lending.{held_none}
use Rattle.scripts.proofs.Payable.{Payable}
use Rattle.scripts.proofs.Pricing.{ill, totalled}
use Rattle.scripts.proofs.Refreshing.{Anew, open_anew, open_out, priced-book, refresh-anew, refresh_out}
use Rattle.scripts.proofs.Standing.{Standing, Stands, held-is, sections_are}

-- ---- the mask of 256 slots has room for a section's largest side

want_few : (g : Shape) (p : ℕ → Bool) (n : ℕ) → n ≤ sections g → want_of g p n ≤ 256
unfolding want_of
want_few g p zero l = omega arith
want_few g p (suc n) l = by (p n) (want_few g p n (omega arith))
  where
    by : (x : Bool) → want_of g p n ≤ 256 → max (want_of g p n) (cond x (largest_side (section_part g n)) 0) ≤ 256
    by true h = omega (arith, section_largest g n (omega arith))
    by false h = omega arith

want_all : (g : Shape) (p : ℕ → Bool) → want_of g p (sections g) ≤ 256
want_all g p = want_few g p (sections g) (omega arith)

-- a refresh wipes it, and keeps its length
mask_under : (n : ℕ) (t : Terms) (v : Volume) (f : Cell → ℕ) (p : ℕ → Bool) (k : Marks) (m l : List ℕ) → 256 ≤ length m → length (measuring n t v f p k m l).mask ≡ length m
mask_under n t v f p k m l h =
    by_measuring t v f p k m l (λ (o : C.Outcome). length o.mask ≡ length m) n (λ j. refl)
    (length-wiped _ m (omega (arith, want_all (shape_of v) p)))

pub mask-kept : (m : Machine) (s : Storage) (rates mask sheet : List ℕ) → 256 ≤ length mask → length (refresh_step m s rates mask sheet).mask ≡ length mask
unfolding refresh_step refresh_with measure_call C.open_call C.refresh_call
mask-kept m s rates mask sheet h = by m.stale
  where
    n : ℕ
    n = held m s (length sheet)

    by : (x : Bool)
        → length (cond x (C.open_call (terms_in m rates) m.volume (take (n * 4096) s.cells) m.marks mask (take (n * 3) sheet))
        (C.refresh_call (terms_in m rates) m.volume (take (n * 4096) s.cells) (take n s.log) (take n s.last) m.marks mask (take (n * 3) sheet))).mask ≡ length mask
    by true = mask_under _ (terms_in m rates) m.volume _ _ m.marks mask (take (n * 3) sheet) h
    by false = mask_under _ (terms_in m rates) m.volume _ _ m.marks mask (take (n * 3) sheet) h

-- ---- the number of a call that measures

abbrev verdict_of : ℕ → Verdict
verdict_of zero = C.done
verdict_of (suc n) = C.refused (suc n)

verdict_under : (n : ℕ) (t : Terms) (v : Volume) (f : Cell → ℕ) (p : ℕ → Bool) (k : Marks) (m l : List ℕ) → (measuring n t v f p k m l).verdict ≡ verdict_of n
unfolding measuring
verdict_under zero t v f p k m l = refl
verdict_under (suc n) t v f p k m l = refl

module _ (f : Four) (b : Book) (k : Tells f.state b) (t : Terms) (mask : List ℕ) (room : 256 ≤ length mask) where
  module _ (p : ℕ → Bool) (kept : (i : ℕ) → i < sections b.shape → p i ≡ false → priced t.rates t.beyond b.shape b.look i ≡ true) where
    -- sections that are not picked are rated already, so that the picked ones decide for the whole stand
    rated-all : all_priced t.rates t.beyond (shape f.state) (look (shape f.state) f.state.cells) p (sections (shape f.state)) ≡ all_rated t b
    unfolding all_priced all_rated
    rated-all =
        ap
        (all (λ i. not (p i) || priced t.rates t.beyond (shape f.state) (look (shape f.state) f.state.cells) i))
        (ap sections k.shape_is)
        ∙ all_same _ _ (sections b.shape)
        (λ i l.
        let old = priced t.rates t.beyond (shape f.state) (look (shape f.state) f.state.cells) i in
        by-test (p i)
        (λ e. ap (λ (x : Bool). not x || old) e ∙ sym (priced-book f b k t mask i))
        (λ e. ap (λ (x : Bool). not x || old) e ∙ sym (kept i l e)))

    number_is : (fits ahead : Bool) → fits ≡ true → ahead ≡ false
        → measure_refusal t f.state.volume (look (shape f.state) f.state.cells) p fits ahead (length mask) ≡ refresh_number t b
    unfolding measure_refusal refresh_number first
    number_is fits ahead x y =
        let w : ltb (length mask) (want_of (shape f.state) p (sections (shape f.state))) ≡ false =
        le-ltb (length mask) (want_of (shape f.state) p (sections (shape f.state))) (omega (arith, want_all (shape f.state) p)) in
        λ i. first ((not (k.formed i) ⇒ 3) ∷ (not (x i) ⇒ 4) ∷ (y i ⇒ 8) ∷ (w i ⇒ 10) ∷ (ltb limit t.cut || not (rated-all i) ⇒ 12) ∷ [])

  module _ (rows : length f.sheet ≡ sections (shape f.state) * 3) where
    open_fits_lem : open_fits (sections (shape f.state)) (length f.state.cells) (length f.sheet) ≡ true
    unfolding open_fits
    open_fits_lem = let l = fitting-lengths f.state k.fits in and_both _ _ (eq-eqb _ _ l.cells) (eq-eqb _ _ rows)

    refresh-fits : refresh_fits (sections (shape f.state)) (length f.state.cells) (length f.state.log) (length f.state.last) (length f.sheet) ≡ true
    unfolding refresh_fits
    refresh-fits =
        let l = fitting-lengths f.state k.fits in
        and_both _ _ (eq-eqb _ _ l.cells) (and_both _ _ (eq-eqb _ _ l.log) (and_both _ _ (eq-eqb _ _ l.last) (eq-eqb _ _ rows)))

    open_verdict : (open_out f b k t mask).verdict ≡ verdict_of (refresh_number t b)
    unfolding C.open_call
    open_verdict =
        verdict_under _ t f.state.volume _ every f.marks mask f.sheet
        ∙ ap verdict_of (number_is every (λ i l e. absurd (true≢false e)) _ false open_fits_lem refl)

    -- rows away from all changes since the mark were priced by the same card
    refresh-verdict : Shows t f.marks.sheet f.sheet b → Payable t f.marks.sheet b → (refresh_out f b k t mask).verdict ≡ verdict_of (refresh_number t b)
    unfolding C.refresh_call
    refresh-verdict h q =
        verdict_under _ t f.state.volume _ _ f.marks mask f.sheet
        ∙ ap verdict_of
        (number_is (todo (shape f.state) f.state.log f.state.last f.marks.sheet f.state.volume.generation)
        (λ i l e. q i l (todo-none f.state b k f.marks.sheet h.mark_le i e)) _ _ refresh-fits
        (le-ltb f.state.volume.generation f.marks.sheet (omega (arith, h.mark_le, k.count-is))))

-- ---- its line

-- accepted, the sheet it leaves is totalled
line_under : (m : Machine) (r : Marks) (rows : List ℕ) (x : Reply) (j : ℕ)
    → (is_done (verdict_of j) ≡ true → price_reply m.volume.generation (totals_call m.volume rows) ≡ x) → (priced_turn m (verdict_of j) r rows).reply ≡ refused_or j x
line_under m r rows x zero h = h refl
line_under m r rows x (suc j) h = refl

module _ (m : Machine) (s : Storage) (rates mask sheet : List ℕ) (u : Full s) (q : length sheet ≡ 12) (room : 256 ≤ length mask) where
  abbrev terms : Terms
  terms = terms_in m rates

  abbrev line_on : Book → Reply
  line_on b = refused_or (refresh_number terms b) (R.Price b.count (book_sums terms b))

  module _ (b : Book) (w : Stands m s terms sheet b) where
    line_is : (o : C.Outcome) → o.verdict ≡ verdict_of (refresh_number terms b) → (is_done o.verdict ≡ true → Anew terms b o.marks.sheet o.sheet)
        → (priced_turn m o.verdict o.marks o.sheet).reply ≡ line_on b
    line_is o e h =
        ap (λ (a : Verdict). (priced_turn m a o.marks o.sheet).reply) e
        ∙ line_under m o.marks o.sheet _ (refresh_number terms b) (λ d. totalled m s rates mask sheet u q b w o.marks o.sheet (h (ap is_done e ∙ d)))

    abbrev now : Four
    now = record { state = joined m.volume (front w.n s); marks = m.marks; sheet = take (w.n * 3) sheet }

    rows_are : length (take (w.n * 3) sheet) ≡ sections (shape_of m.volume) * 3
    rows_are = length-take-le (w.n * 3) sheet (omega (arith, w.few)) ∙ ap (λ n. n * 3) (sym (sections_are w))

    measured : (refresh_with w.n m s rates mask sheet).turn.reply ≡ line_on b
    unfolding refresh_with measure_call
    measured = go m.stale refl
      where
        go : (x : Bool) → m.stale ≡ x
            → (let o = cond x (open_out now b w.tells terms mask) (refresh_out now b w.tells terms mask) in
            (priced_turn m o.verdict o.marks o.sheet).reply ≡ line_on b)
        go true e =
            line_is (open_out now b w.tells terms mask) (open_verdict now b w.tells terms mask room rows_are) (open_anew now b w.tells terms mask)
        go false e =
            line_is (refresh_out now b w.tells terms mask)
            (refresh-verdict now b w.tells terms mask room rows_are (w.shows e) (w.payable e))
            (refresh-anew now b w.tells terms mask (w.shows e) (w.payable e))

  pub refresh_says : (b : Option Book) → Standing m s terms sheet b → (refresh_step m s rates mask sheet).turn.reply ≡ on_stand b line_on
  unfolding Standing refresh_step refresh_with measure_call
  refresh_says none f =
      ap (λ n. (refresh_with n m s rates mask sheet).turn.reply) (ap (held m s) q ∙ held_none m s u f)
      ∙ ap (λ (o : C.Outcome). (priced_turn m o.verdict o.marks o.sheet).reply)
      (ill m s rates mask sheet u q m.stale m.volume (take 0 s.cells) (take 0 s.log) (take 0 s.last) (take 0 sheet) f)
  refresh_says (some b) w = ap (λ n. (refresh_with n m s rates mask sheet).turn.reply) (held-is w u (length sheet) q) ∙ measured b w
