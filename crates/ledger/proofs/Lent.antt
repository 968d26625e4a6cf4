-- Calls lent storage of another length: state and book stay.
use mathlib.Core.Path.{◌≡◌, refl, sym, ◌∙◌}
use mathlib.Core.Bool.{Bool, true, false, false≢true}
use Prim.Native.Nat.{ℕ, zero, suc}
use borrow.Author.Tests.{not-false}
use Rattle.stand.specs.Edit.{fitting, look, set_call, set_def, set_refusal}
use Rattle.stand.specs.Fill.{fill_call, fill_def, fill_refusal}
use Rattle.stand.specs.Shape.{Shape, well_formed}
use Rattle.stand.specs.Storage.{Lengths, Outcome, State, shape}
use Rattle.stand.specs.declared.Cell.{Cell}
use Rattle.stand.proofs.Edit.{by_edited, settable}
use Rattle.stand.proofs.Refusal.{passes}
use Rattle.ledger.specs.Book.{Book, fits_book, unless, write_fill, write_set}
use Rattle.ledger.specs.Calls.{is_given}

fill-passed : (formed fits : Bool) (g : Shape) (n : ℕ) (c d : Cell) → fill_refusal formed fits g n c d ≡ 0 → fits ≡ true
unfolding fill_refusal
fill-passed formed fits g n c d e = not-false _ (passes _ _ _ (passes _ _ _ e).1).0

-- ---- the state

pub set-lent : (s : State) (c : Cell) (v : ℕ) → fitting s ≡ false → (set_call s c v).state ≡ s
unfolding set_call
set-lent s c v e =
    by_edited (λ (o : Outcome ℕ). o.state ≡ s)
    (set_refusal (well_formed s.volume) (fitting s) (shape s) s.volume.generation (look (shape s) s.cells c) c v) s (set_def s c v)
    (λ k q. refl)
    (λ z. absurd (false≢true (sym e ∙ (settable _ _ _ _ _ _ _ z).fits-is)))

pub fill-lent : (s : State) (c d : Cell) (v : ℕ) → fitting s ≡ false → (fill_call s c d v).state ≡ s
unfolding fill_call
fill-lent s c d v e =
    by_edited (λ (o : Outcome ℕ). o.state ≡ s)
    (fill_refusal (well_formed s.volume) (fitting s) (shape s) s.volume.generation c d) s (fill_def s c d v)
    (λ k q. refl)
    (λ z. absurd (false≢true (sym e ∙ fill-passed _ _ _ _ _ _ z)))

-- and it is refused
pub set-unfit : (s : State) (c : Cell) (v : ℕ) → fitting s ≡ false → is_given (set_call s c v).answer ≡ true → ⊥
unfolding set_call
set-unfit s c v e =
    by_edited (λ (o : Outcome ℕ). is_given o.answer ≡ true → ⊥)
    (set_refusal (well_formed s.volume) (fitting s) (shape s) s.volume.generation (look (shape s) s.cells c) c v) s (set_def s c v)
    (λ k q h. false≢true h)
    (λ z h. false≢true (sym e ∙ (settable _ _ _ _ _ _ _ z).fits-is))

pub fill-unfit : (s : State) (c d : Cell) (v : ℕ) → fitting s ≡ false → is_given (fill_call s c d v).answer ≡ true → ⊥
unfolding fill_call
fill-unfit s c d v e =
    by_edited (λ (o : Outcome ℕ). is_given o.answer ≡ true → ⊥)
    (fill_refusal (well_formed s.volume) (fitting s) (shape s) s.volume.generation c d) s (fill_def s c d v)
    (λ k q h. false≢true h)
    (λ z h. false≢true (sym e ∙ fill-passed _ _ _ _ _ _ z))

-- ---- the book

refused_stays : (n : ℕ) (b d : Book) → (n ≡ 0 → ⊥) → unless n b d ≡ b
unfolding unless
refused_stays zero b d h = absurd (h refl)
refused_stays (suc n) b d h = refl

module _ (b : Book) (l : Lengths) where
  pub write-set-lent : (c : Cell) (v : ℕ) → fits_book b l ≡ false → write_set b l c v ≡ b
  unfolding write_set
  write-set-lent c v e = refused_stays _ b _ (λ z. false≢true (sym e ∙ (settable _ _ _ _ _ _ _ z).fits-is))

  pub write-fill-lent : (c d : Cell) (v : ℕ) → fits_book b l ≡ false → write_fill b l c d v ≡ b
  unfolding write_fill
  write-fill-lent c d v e = refused_stays _ b _ (λ z. false≢true (sym e ∙ fill-passed _ _ _ _ _ _ z))
