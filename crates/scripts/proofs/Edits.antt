-- A set and a fill of the program, beside the page.
use mathlib.Core.Path.{◌≡◌, refl, sym, ap, ◌∙◌, subst}
use mathlib.Core.Bool.{true, false}
use mathlib.Core.List.{List, [], ◌∷◌}
use mathlib.Core.Option.{Option, none, some}
use Prim.Native.Nat.{ℕ, ◌*◌}
use lib.ListN.{take}
use Rattle.stand.specs.Edit.{edited, fitting, set_call, set_refusal}
use Rattle.stand.specs.Fill.{box_cells, box_of, fill_call, fill_refusal}
use Rattle.stand.specs.Refusal.{first}
use Rattle.stand.specs.Shape.{Shape, sections, well_formed}
use Rattle.stand.specs.Storage.{Outcome, State, Storage, joined, lengths_of, storage, storage_fits}
use Rattle.stand.specs.declared.Cell.{Cell}
use Rattle.sheet.specs.Card.{Terms}
use Rattle.ledger.specs.Book.{Book, fits_book, set_all, set_book, unless, write_fill, write_set}
use Rattle.ledger.proofs.Books.{all-shape-kept, set-shape-kept}
use Rattle.ledger.proofs.Shows.{Shows, shows_write_fill, shows_write_set, unless_so}
use Rattle.ledger.proofs.Tells.{Tells, tells_fill, tells_set}
use Rattle.interpreter.specs.Run.{Edited, back, fill_step, fill_with, front, held, moved, set_step, set_with}
use Rattle.interpreter.specs.declared.Machine.{Machine}
use Rattle.scripts.specs.Page.{fill_number, fill_on, on_book, set_number, set_on}
use Rattle.scripts.proofs.Fronts.{Full, back-front, full_back}
use Rattle.scripts.proofs.Lending.{held_none}
use Rattle.scripts.proofs.Payable.{Payable, payable-all}
use Rattle.scripts.proofs.Standing.{Standing, Stands, given_back, held-is}

-- ---- what the page writes is what the book does

-- a stand and storage that fits leave 5 and 6
pub set-table : (b : Book) (c : Cell) (v : ℕ) → set_refusal true true b.shape b.count (b.look c) c v ≡ set_number c v b
unfolding set_refusal set_number first
set-table b c v = refl

pub fill-table : (b : Book) (c d : Cell) → fill_refusal true true b.shape b.count c d ≡ fill_number c d b
unfolding fill_refusal fill_number first
fill-table b c d = refl

module _ (x : State) (b : Book) (k : Tells x b) where
  fits-book : fits_book b (lengths_of (storage x)) ≡ true
  unfolding fits_book fitting
  fits-book = ap (λ (g : Shape). storage_fits (sections g) (lengths_of (storage x))) (sym k.shape_is) ∙ k.fits

  set_on_lem : (c : Cell) (v : ℕ) → write_set b (lengths_of (storage x)) c v ≡ set_on c v b
  unfolding write_set set_on
  set_on_lem c v =
      (λ i. unless (set_refusal (k.opened i) (fits-book i) b.shape b.count (b.look c) c v) b (set_book b c v))
      ∙ ap (λ n. unless n b (set_book b c v)) (set-table b c v)

  fill_on_lem : (c d : Cell) (v : ℕ) → write_fill b (lengths_of (storage x)) c d v ≡ fill_on c d v b
  unfolding write_fill fill_on
  fill_on_lem c d v =
      (λ i. unless (fill_refusal (k.opened i) (fits-book i) b.shape b.count c d) b (set_all b (box_cells b.shape (box_of b.shape c d)) v))
      ∙ ap (λ n. unless n b (set_all b (box_cells b.shape (box_of b.shape c d)) v)) (fill-table b c d)

  set_tells : (c : Cell) (v : ℕ) → Tells (set_call x c v).state (set_on c v b)
  set_tells c v = subst (Tells (set_call x c v).state) (set_on_lem c v) (tells_set x b c v k)

  fill_tells : (c d : Cell) (v : ℕ) → Tells (fill_call x c d v).state (fill_on c d v b)
  fill_tells c d v = subst (Tells (fill_call x c d v).state) (fill_on_lem c d v) (tells_fill x b c d v k)

  set_shows : (c : Cell) (v : ℕ) {t : Terms} {mark : ℕ} {sheet : List ℕ} → Shows t mark sheet b → Shows t mark sheet (set_on c v b)
  set_shows c v {t} {mark} {sheet} h = subst (Shows t mark sheet) (set_on_lem c v) (shows_write_set b (lengths_of (storage x)) c v h)

  fill_shows : (c d : Cell) (v : ℕ) {t : Terms} {mark : ℕ} {sheet : List ℕ} → Shows t mark sheet b → Shows t mark sheet (fill_on c d v b)
  fill_shows c d v {t} {mark} {sheet} h = subst (Shows t mark sheet) (fill_on_lem c d v) (shows_write_fill b (lengths_of (storage x)) c v h d)

pub set-shape : (b : Book) (c : Cell) (v : ℕ) → (set_on c v b).shape ≡ b.shape
unfolding set_on
set-shape b c v = unless_so (λ (d : Book). d.shape ≡ b.shape) _ b _ refl (set-shape-kept b c v)

pub fill-shape : (b : Book) (c d : Cell) (v : ℕ) → (fill_on c d v b).shape ≡ b.shape
unfolding fill_on
fill-shape b c d v = unless_so (λ (e : Book). e.shape ≡ b.shape) _ b _ refl (all-shape-kept _ b v)

set-payable : (b : Book) (c : Cell) (v : ℕ) {t : Terms} {mark : ℕ} {sheet : List ℕ} → Shows t mark sheet b → Payable t mark b → Payable t mark (set_on c v b)
unfolding set_on set_all
set-payable b c v {t} {mark} {sheet} h p =
    unless_so (λ (d : Book). Payable t mark d) _ b (set_book b c v) p (payable-all t mark b (c ∷ []) v h.opened h.ranged h.mark_le p)

fill-payable : (b : Book) (c d : Cell) (v : ℕ) {t : Terms} {mark : ℕ} {sheet : List ℕ} → Shows t mark sheet b → Payable t mark b → Payable t mark (fill_on c d v b)
unfolding fill_on
fill-payable b c d v {t} {mark} {sheet} h p =
    unless_so (λ (e : Book). Payable t mark e) _ b _ p (payable-all t mark b _ v h.opened h.ranged h.mark_le p)

-- ---- after an edit

-- storage keeps its lengths, and the stand its book
pub record Kept (e : Edited) (m : Machine) (t : Terms) (sheet : List ℕ) (b : Option Book) : Type 0 where
  pub full : Full e.storage
  pub cut-is : e.turn.machine.cut ≡ m.cut
  pub standing : Standing e.turn.machine e.storage t sheet b

module _ (m : Machine) (s : Storage) (t : Terms) (sheet : List ℕ) (u : Full s) where
  -- an outcome that tells of a book of the same shape
  moved-kept : (b b' : Book) (w : Stands m s t sheet b) (o : Outcome ℕ) → b'.shape ≡ b.shape → Tells o.state b'
      → (Shows t m.marks.sheet (take (w.n * 3) sheet) b → Shows t m.marks.sheet (take (w.n * 3) sheet) b')
      → (Shows t m.marks.sheet (take (w.n * 3) sheet) b → Payable t m.marks.sheet b → Payable t m.marks.sheet b')
      → Kept (moved w.n m s o) m t sheet (some b')
  unfolding Standing
  moved-kept b b' w o g k h p =
      let e : w.n ≡ sections b'.shape = w.n_is ∙ ap sections (sym g) in
      let r = given_back w.n o.state s b' e k in
      record {
        full = full_back w.n (storage o.state) s r.0 w.few u;
        cut-is = refl;
        standing = record { n = w.n; n_is = e; few = w.few; tells = r.1; shows = λ q. h (w.shows q); payable = λ q. p (w.shows q) (w.payable q) };
      }

  -- before the first opening 3 refuses an edit
  unmoved : (o : Outcome ℕ) → o.state ≡ joined m.volume (front 0 s) → well_formed m.volume ≡ false → Kept (moved 0 m s o) m t sheet none
  unfolding Standing
  unmoved o e f =
      record {
        full = subst Full (sym (ap (λ (x : State). back 0 (storage x) s) e ∙ back-front 0 s)) u;
        cut-is = refl;
        standing = ap (λ (x : State). well_formed x.volume) e ∙ f;
      }

set_ill : (x : State) (c : Cell) (v : ℕ) → well_formed x.volume ≡ false → (set_call x c v).state ≡ x
unfolding set_call set_refusal first edited
set_ill x c v f = rw f

fill_ill : (x : State) (c d : Cell) (v : ℕ) → well_formed x.volume ≡ false → (fill_call x c d v).state ≡ x
unfolding fill_call fill_refusal first edited
fill_ill x c d v f = rw f

-- ---- the two calls

module _ (m : Machine) (s : Storage) (t : Terms) (sheet : List ℕ) (u : Full s) (k : ℕ) (q : k ≡ 12) where
  pub set-kept : (c : Cell) (v : ℕ) (b : Option Book) → Standing m s t sheet b → Kept (set_step m s k c v) m t sheet (on_book (set_on c v) b)
  unfolding Standing set_step set_with on_book
  set-kept c v none f =
      subst (λ n. Kept (set_with n m s c v) m t sheet none) (sym (ap (held m s) q ∙ held_none m s u f))
      (unmoved m s t sheet u (set_call (joined m.volume (front 0 s)) c v) (set_ill (joined m.volume (front 0 s)) c v f) f)
  set-kept c v (some b) w =
      subst (λ n. Kept (set_with n m s c v) m t sheet (some (set_on c v b))) (sym (held-is w u k q))
      (moved-kept m s t sheet u b (set_on c v b) w (set_call (joined m.volume (front w.n s)) c v) (set-shape b c v)
      (set_tells (joined m.volume (front w.n s)) b w.tells c v) (set_shows (joined m.volume (front w.n s)) b w.tells c v) (set-payable b c v))

  pub fill-kept : (c d : Cell) (v : ℕ) (b : Option Book) → Standing m s t sheet b → Kept (fill_step m s k c d v) m t sheet (on_book (fill_on c d v) b)
  unfolding Standing fill_step fill_with on_book
  fill-kept c d v none f =
      subst (λ n. Kept (fill_with n m s c d v) m t sheet none) (sym (ap (held m s) q ∙ held_none m s u f))
      (unmoved m s t sheet u (fill_call (joined m.volume (front 0 s)) c d v) (fill_ill (joined m.volume (front 0 s)) c d v f) f)
  fill-kept c d v (some b) w =
      subst (λ n. Kept (fill_with n m s c d v) m t sheet (some (fill_on c d v b))) (sym (held-is w u k q))
      (moved-kept m s t sheet u b (fill_on c d v b) w (fill_call (joined m.volume (front w.n s)) c d v) (fill-shape b c d v)
      (fill_tells (joined m.volume (front w.n s)) b w.tells c d v) (fill_shows (joined m.volume (front w.n s)) b w.tells c d v) (fill-payable b c d v))
