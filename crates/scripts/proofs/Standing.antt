-- What machine and lists have in common with the page after every call.
use mathlib.Core.Path.{◌≡◌, sym, ap, ◌∙◌, subst}
use mathlib.Core.Bool.{false}
use mathlib.Core.List.{List}
use mathlib.Core.Option.{Option, none, some}
use Prim.Native.Nat.{ℕ, ◌*◌, ◌≤◌}
use lib.ListN.{length, take}
use Rattle.stand.specs.Shape.{sections, shape_of, well_formed}
use Rattle.stand.specs.Storage.{State, Storage, joined, lengths_of, storage}
use Rattle.stand.proofs.Edit.{fitting-lengths}
use Rattle.stand.proofs.Storage.{Fitting}
use Rattle.sheet.specs.Card.{Terms}
use Rattle.ledger.specs.Book.{Book}
use Rattle.ledger.proofs.Shows.{Shows}
use Rattle.ledger.proofs.Tells.{Tells}
use Rattle.interpreter.specs.Room.{Lists}
use Rattle.interpreter.specs.Run.{back, front, held, terms_in}
use Rattle.interpreter.specs.declared.Machine.{Machine}
use Rattle.scripts.specs.Page.{Page}
use Rattle.scripts.proofs.Fronts.{Full, front-back}
use Rattle.scripts.proofs.Lending.{held_all}
use Rattle.scripts.proofs.Payable.{Payable}

-- a stand of n sections, its book, and a sheet that shows it unless stand or card is new
pub record Stands (m : Machine) (s : Storage) (t : Terms) (sheet : List ℕ) (b : Book) : Type 0 where
  pub n : ℕ
  pub n_is : n ≡ sections b.shape
  pub few : n ≤ 4
  pub tells : Tells (joined m.volume (front n s)) b
  pub shows : m.stale ≡ false → Shows t m.marks.sheet (take (n * 3) sheet) b
  pub payable : m.stale ≡ false → Payable t m.marks.sheet b

unfoldable pub Standing : Machine → Storage → Terms → List ℕ → Option Book → Type 0
Standing m s t sheet none = well_formed m.volume ≡ false
Standing m s t sheet (some b) = Stands m s t sheet b

pub record Holds (m : Machine) (l : Lists) (p : Page) : Type 0 where
  pub full : Full l.storage
  pub rated : length l.rates ≡ 64
  pub rows : length l.sheet ≡ 12
  pub rates_are : l.rates ≡ p.rates
  pub cut-is : m.cut ≡ p.cut
  pub standing : Standing m l.storage (terms_in m l.rates) l.sheet p.book

-- ---- a stand's n sections

module _ {m : Machine} {s : Storage} {t : Terms} {sheet : List ℕ} {b : Book} (w : Stands m s t sheet b) where
  pub sections_are : sections (shape_of m.volume) ≡ w.n
  sections_are = ap sections w.tells.shape_is ∙ sym w.n_is

  pub held-is : Full s → (k : ℕ) → k ≡ 12 → held m s k ≡ w.n
  held-is u k e =
      ap (held m s) e ∙ held_all m s u w.tells.formed (subst (λ n. n ≤ 4) (sym sections_are) w.few) ∙ sections_are

-- a state that tells of a book with n sections, given back
pub given_back : (n : ℕ) (x : State) (s : Storage) (b : Book) → n ≡ sections b.shape → Tells x b
    → Fitting n (lengths_of (storage x)) × Tells (joined x.volume (front n (back n (storage x) s))) b
given_back n x s b e k =
    let f : Fitting n (lengths_of (storage x)) =
    subst (λ n. Fitting n (lengths_of (storage x))) (ap sections k.shape_is ∙ sym e) (fitting-lengths x k.fits) in
    (f, subst (λ (y : Storage). Tells (joined x.volume y) b) (sym (front-back n (storage x) s f)) k)
