-- What a call may be lent on any four, and the calls that may follow the sheet's opening.
use mathlib.Core.Path.{◌≡◌, refl, sym, ap, ◌∙◌, subst}
use mathlib.Core.Bool.{Bool, true, false, cond, not, false≢true}
use mathlib.Core.List.{List, [], ◌∷◌, map}
use mathlib.Core.Option.{Option, none, some}
use Prim.Native.Nat.{ℕ, ◌+◌, ◌*◌, ◌≤◌}
use native.Mathlib.Omega.{arith}
use borrow.Author.Tests.{eqb-false, ne_eqb, not-true}
use lib.Dec.{eqb}
use lib.ListN.{length}
use Rattle.stand.specs.Edit.{fitting}
use Rattle.stand.specs.Shape as H
use Rattle.stand.specs.Shape.{Shape, chunk_of, counted, sections, shape_of}
use Rattle.stand.specs.Storage.{Lengths, Storage, lengths_of, storage, storage_fits, storage_of}
use Rattle.stand.specs.declared.Cell.{Cell}
use Rattle.stand.proofs.Shape.{sections-some}
use Rattle.stand.proofs.Tests.{both, by-test}
use Rattle.form.specs.Form.{has_head}
use Rattle.mesh.specs.Cover.{Each}
use Rattle.mesh.specs.Near.{near}
use Rattle.sheet.specs.Calls.{open_fits, refresh_fits}
use Rattle.sheet.specs.Card.{Terms}
use Rattle.ledger.specs.Book.{Book, Edit, Source, load_book, note_book, open_book, set_book, source_book, write_set}
use Rattle.ledger.specs.Breadth.{Later, later, sets}
use Rattle.ledger.specs.Calls as C
use Rattle.ledger.specs.Calls.{Call, Effect, Four, Op, accepted, book, call, edited, effect_of, feed, given, own, result, run, sheeted, step, unfit, write}
use Rattle.ledger.specs.Claim.{All, Keeps, KeepsTo, Lent, Uses}
use Rattle.ledger.proofs.Books.{by_book}
use Rattle.ledger.proofs.Kept.{AcceptedBy, LentBy, tells_step}
use Rattle.ledger.proofs.Lent.{fill-unfit, set-unfit}
use Rattle.ledger.proofs.Sheeted.{both_ways, open_fits_lem, refresh-passed}
use Rattle.ledger.proofs.Shows.{Clean, unless_so}
use Rattle.ledger.proofs.Tells.{Tells, source-passed}
use Rattle.ledger.proofs.Starting.{given-number}

-- ---- the four's own lists

pub own-lent : (s : Four) (o : Op) → Lent s (own o)
unfolding Lent
own-lent s o = go (effect_of o)
  where
    go : (e : Effect) → LentBy s (own o) e
    go (Effect.opens_stand x) = tt
    go (Effect.edits e) = tt
    go (Effect.opens_sheet t m) = tt
    go (Effect.refreshes t m) = (tt, tt)
    go Effect.leaves = tt

pub own-lists : (s : Four) (os : List Op) → All Lent s (map own os)
unfolding All
own-lists s [] = tt
own-lists s (o ∷ os) = (own-lent s o, own-lists (step s (own o)) os)

-- ---- lists that 4 refuses

-- they may be lent
pub uses_so : (e : Effect) (st : Option Storage) (l : Option (List ℕ)) {A : Type 0} → A → Uses e st l A
uses_so (Effect.opens_stand x) st l a = tt
uses_so (Effect.edits e) none l a = tt
uses_so (Effect.edits e) (some st) l a = a
uses_so (Effect.opens_sheet t m) none l a = tt
uses_so (Effect.opens_sheet t m) (some st) l a = a
uses_so (Effect.refreshes t m) none none a = (tt, tt)
uses_so (Effect.refreshes t m) none (some l) a = (tt, a)
uses_so (Effect.refreshes t m) (some st) none a = (a, tt)
uses_so (Effect.refreshes t m) (some st) (some l) a = (a, a)
uses_so Effect.leaves st l a = tt

unfit-source : (s : Four) (x : Source) → unfit s (Effect.opens_stand x) ≡ true → not (storage_fits (sections (source_book x).shape) (lengths_of (storage s.state))) ≡ true
unfolding unfit open_book load_book
unfit-source s (Source.empty o size) u = u
unfit-source s (Source.form f) u = (both (has_head f.bytes) _ u).1

-- and a call that would write one of the four is refused
pub unfit-refused : (s : Four) (e : Effect) → unfit s e ≡ true → (result s e).accepted ≡ true → e ≡ Effect.leaves
unfolding unfit result C.opened edited sheeted
unfit-refused s (Effect.opens_stand x) u a =
    absurd (both_ways _ (unfit-source s x u) (source-passed x (lengths_of (storage s.state)) (given-number (storage s.state) x a)).1)
unfit-refused s (Effect.edits (Edit.one c v)) u a = absurd (set-unfit s.state c v (not-true _ u) a)
unfit-refused s (Effect.edits (Edit.box c d v)) u a = absurd (fill-unfit s.state c d v (not-true _ u) a)
unfit-refused s (Effect.opens_sheet x m) u a = absurd (both_ways _ u (open_fits_lem s x m s.state s.sheet a))
unfit-refused s (Effect.refreshes x m) u a = absurd (both_ways _ u (refresh-passed s x m s.state s.sheet a).fits-is)
unfit-refused s Effect.leaves u a = refl

unfit-keeps : (s : Four) (t : Terms) (e : Effect) → unfit s e ≡ true → (result s e).accepted ≡ true → KeepsTo t e
unfit-keeps s t e u a = subst (KeepsTo t) (sym (unfit-refused s e u a)) tt

pub refused_by_4 : (s : Four) (c : Call) → unfit (given s c) (effect_of c.op) ≡ true → Lent s c × ((t : Terms) → Keeps t s c)
unfolding Lent Keeps accepted
refused_by_4 s c u = (uses_so (effect_of c.op) c.storage c.sheet u, λ t. unfit-keeps (given s c) t (effect_of c.op) u)

-- lists of length 0
abbrev bare : Op → Call
bare o = call (some (storage_of [] [] [] [] [])) (some []) o

abbrev nothing : Lengths
nothing = lengths_of (storage_of [] [] [] [] [])

none_fit : (n : ℕ) → 1 ≤ n → storage_fits n nothing ≡ false
unfolding storage_fits
none_fit n h = rw (ne_eqb 0 (n * 4096) (λ e. omega arith))

none_open : (n : ℕ) → 1 ≤ n → open_fits n 0 0 ≡ false
unfolding open_fits
none_open n h = rw (ne_eqb 0 (n * 4096) (λ e. omega arith))

none-refresh : (n : ℕ) → 1 ≤ n → refresh_fits n 0 0 0 0 ≡ false
unfolding refresh_fits
none-refresh n h = rw (ne_eqb 0 (n * 4096) (λ e. omega arith))

module _ (s : Four) (b : Book) (k : Tells s.state b) (t : Terms) (o : Op) where
  some-sections : 1 ≤ sections (shape_of s.state.volume)
  some-sections = sections-some (shape_of s.state.volume) (ap H.opens k.shape_is ∙ k.opened)

  none_so : (e : Effect) → LentBy s (bare o) e × (AcceptedBy s (bare o) e → KeepsTo t e)
  unfolding unfit given result C.opened fitting
  none_so (Effect.opens_stand x) = (
    tt,
    λ e.
        let q = source-passed x nothing (given-number (storage_of [] [] [] [] []) x e) in
        absurd (false≢true (sym (none_fit _ (sections-some (source_book x).shape q.0)) ∙ q.1)),
  )
  none_so (Effect.edits d) = (ap not (none_fit _ some-sections), λ e. tt)
  none_so (Effect.opens_sheet x m) =
      let u = ap not (none_open _ some-sections) in (u, unfit-keeps (given s (bare o)) t (Effect.opens_sheet x m) u)
  none_so (Effect.refreshes x m) =
      let u = ap not (none-refresh _ some-sections) in ((u, u), unfit-keeps (given s (bare o)) t (Effect.refreshes x m) u)
  none_so Effect.leaves = (tt, λ e. tt)

-- ---- the calls that may follow the sheet's opening

module _ (t : Terms) where
  later_so : (s : Four) (b : Book) → Tells s.state b → (y : Later) → Lent s (later t y) × Keeps t s (later t y)
  unfolding Lent Keeps accepted
  later_so s b k (Later.set c v) = (own-lent s (Op.set c v), λ e. tt)
  later_so s b k (Later.set_lent c v) = (own-lent s (Op.set_lent c v), λ e. tt)
  later_so s b k (Later.fill c d v) = (own-lent s (Op.fill c d v), λ e. tt)
  later_so s b k (Later.refresh m) = (own-lent s (Op.refresh t m), λ e. refl)
  later_so s b k Later.totals = (own-lent s Op.totals, λ e. tt)
  later_so s b k (Later.reads r) = (own-lent s (Op.reads r), λ e. tt)
  later_so s b k (Later.lent_empty o) = none_so s b k t o (effect_of o)

  pub later-all : (s : Four) (b : Book) → Tells s.state b → (ys : List Later) → All Lent s (map (later t) ys) × All (Keeps t) s (map (later t) ys)
  unfolding All
  later-all s b k [] = (tt, tt)
  later-all s b k (y ∷ ys) =
      let q = later_so s b k y in
      let r = later-all (step s (later t y)) (write b (lengths_of (storage (given s (later t y)).state)) (effect_of (later t y).op)) (tells_step s b (later t y) q.0 k) ys in
      ((q.0, r.0), (q.1, r.1))

  pub sets-all : (s : Four) (cs : List Cell) (v : ℕ) → All Lent s (sets cs v) × All (Keeps t) s (sets cs v)
  unfolding All Keeps
  sets-all s [] v = (tt, tt)
  sets-all s (c ∷ cs) v =
      let r = sets-all (step s (own (Op.set c v))) cs v in ((own-lent s (Op.set c v), r.0), (λ e. tt, r.1))

-- they leave the marks
pub sets-marks : (s : Four) (cs : List Cell) (v : ℕ) → (run s (sets cs v)).marks ≡ s.marks
unfolding run step C.left_by given result C.edited
sets-marks s [] v = refl
sets-marks s (c ∷ cs) v = sets-marks (step s (own (Op.set c v))) cs v

-- and a row that is clean and beside none of them stays clean
pub record Still (b : Book) (mark i n : ℕ) (b' : Book) : Type 0 where
  pub shape_is : b'.shape ≡ b.shape
  pub clean : Clean b' mark i
  pub few : b'.count ≤ b.count + n

module _ (mark i : ℕ) (v : ℕ) where
  abbrev pub Beside : Book → Cell → Type 0
  Beside b c = near (counted b.shape) (chunk_of b.shape c) i ≡ false

  note_still : (b : Book) (c : Cell) → Clean b mark i → Beside b c → Still b mark i 1 (note_book b c v)
  unfolding note_book
  note_still b c h n =
      record {
        shape_is = refl;
        clean = λ d e r.
            by-test (eqb r.number (b.count + 1))
            (λ q. false≢true (sym n ∙ ap (λ (x : ℕ). near (counted b.shape) x i) (sym (ap (λ (z : Bool). cond z (chunk_of b.shape c) (b.noted r.number)) q) ∙ r.is) ∙ e))
            (λ q.
            let p = eqb-false r.number (b.count + 1) q in
            h d e
            (record {
              number = r.number;
              above = r.above;
              within = omega (arith, r.within);
              is = sym (ap (λ (z : Bool). cond z (chunk_of b.shape c) (b.noted r.number)) q) ∙ r.is;
            }));
        few = omega arith;
      }

  set_still : (b : Book) (l : Lengths) (c : Cell) → Clean b mark i → Beside b c → Still b mark i 1 (write_set b l c v)
  unfolding write_set
  set_still b l c h n =
      let same : Still b mark i 1 b = record { shape_is = refl; clean = h; few = omega arith } in
      unless_so (Still b mark i 1) _ b (set_book b c v) same (by_book (Still b mark i 1) b c v (λ _. same) (λ _. note_still b c h n))

  pub sets_still : (cs : List Cell) (s : Four) (b : Book) → Clean b mark i → Each (Beside b) cs
      → Still b mark i (length cs) (book b (feed s (sets cs v)))
  unfolding book feed write
  sets_still [] s b h n = record { shape_is = refl; clean = h; few = omega arith }
  sets_still (c ∷ cs) s b h n =
      let l = lengths_of (storage (given s (own (Op.set c v))).state) in
      let p = set_still b l c h n.0 in
      let q = sets_still cs (step s (own (Op.set c v))) (write_set b l c v) p.clean
      (subst (λ (g : Shape). Each (λ (x : Cell). near (counted g) (chunk_of g x) i ≡ false) cs) (sym p.shape_is) n.1) in
      record { shape_is = q.shape_is ∙ p.shape_is; clean = q.clean; few = omega (arith, p.few, q.few) }
