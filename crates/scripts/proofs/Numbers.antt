-- The numbers that a page gives are those of its tables, and a call that has one is not written down.
use mathlib.Core.Path.{◌≡◌, refl, sym, ap, subst}
use mathlib.Core.Bool.{Bool, true, false, cond, not, ◌&&◌}
use mathlib.Core.List.{List, [], ◌∷◌}
use mathlib.Core.Option.{Option, none, some}
use Prim.Native.Nat.{ℕ, zero, suc}
use native.Mathlib.Omega.{arith}
use borrow.Author.Tests.{eq-eqb}
use lib.Dec.{eqb, leb}
use lib.ListN.{set}
use Rattle.stand.specs.Fill.{box_cells, box_of}
use Rattle.stand.specs.Opening.{opened_shape}
use Rattle.stand.specs.Refusal.{Rule, ◌⇒◌, first}
use Rattle.stand.proofs.Tests.{or_left, or_right}
use Rattle.sheet.specs.Due.{hits}
use Rattle.sheet.specs.declared.Row.{Row}
use Rattle.ledger.specs.Book.{Book, set_all, set_book, unless}
use Rattle.ledger.specs.Claim.{book_sums}
use Rattle.interpreter.specs.declared.Call.{Call}
use Rattle.interpreter.specs.declared.Call.TheVariants as K
use Rattle.interpreter.specs.declared.Reply.{Reply}
use Rattle.interpreter.specs.declared.Reply.TheVariants as R
use Rattle.scripts.specs.Page.{Page, fill_number, fill_on, on_book, open_number, opened, rate_number, set_number, set_on, terms_on, with_book, write}
use Rattle.scripts.specs.Said.{on_stand, refresh_number, reply_to, refused_or}
use Rattle.scripts.specs.Says.{numbers_of}

abbrev In : ℕ → List ℕ → Type 0
In n ns = hits (eqb n) ns ≡ true

unfoldable numbers : List Rule → List ℕ
numbers [] = []
numbers ((b ⇒ n) ∷ rs) = n ∷ numbers rs

first_in : (rs : List Rule) (n : ℕ) → first rs ≡ suc n → In (suc n) (numbers rs)
unfolding first numbers hits
first_in [] n e = absurd (omega arith)
first_in ((true ⇒ m) ∷ rs) n e = or_left (eqb (suc n) m) (hits (eqb (suc n)) (numbers rs)) (eq-eqb (suc n) m (sym e))
first_in ((false ⇒ m) ∷ rs) n e = or_right (eqb (suc n) m) (hits (eqb (suc n)) (numbers rs)) (first_in rs n e)

-- a reply that is no number
abbrev NoNumber : Reply → Type 0
NoNumber r = (n : ℕ) → r ≡ R.Refused n → ⊥

price : (g : ℕ) (x : Row) → NoNumber (R.Price g x)
price g x n e = let z : ◌≡◌ {A = ℕ} 0 1 = cc in absurd (omega arith)

quiet : NoNumber R.Quiet
quiet n e = let z : ◌≡◌ {A = ℕ} 0 1 = cc in absurd (omega arith)

-- under a table's number
under : (rs : List Rule) (j n : ℕ) (r : Reply) → j ≡ first rs → NoNumber r → refused_or j r ≡ R.Refused n → In n (numbers rs)
under rs zero n r t q e = absurd (q n e)
under rs (suc j) n r t q e = let d : suc j ≡ n = cc in subst (λ (n : ℕ). In n (numbers rs)) d (first_in rs j (sym t))

-- 3 before an opening
stands : (ns : List ℕ) (b : Option Book) (f : Book → Reply) (n : ℕ) → ((b : Book) → f b ≡ R.Refused n → In n ns) → on_stand b f ≡ R.Refused n → In n (3 ∷ ns)
unfolding hits
stands ns none f n h e = let d : 3 ≡ n = cc in or_left (eqb n 3) (hits (eqb n) ns) (eq-eqb n 3 (sym d))
stands ns (some b) f n h e = or_right (eqb n 3) (hits (eqb n) ns) (h b e)

pub call_in : (p : Page) (c : Call) (n : ℕ) → reply_to p c ≡ R.Refused n → In n (numbers_of c)
unfolding reply_to numbers open_number set_number fill_number refresh_number rate_number
call_in p (K.Open o size) n e = under _ (open_number (opened_shape o size)) n R.Quiet refl quiet e
call_in p (K.Set c v) n e = stands (5 ∷ 6 ∷ []) p.book _ n (λ b. under _ (set_number c v b) n R.Quiet refl quiet) e
call_in p (K.Fill c d v) n e = stands (6 ∷ []) p.book _ n (λ b. under _ (fill_number c d b) n R.Quiet refl quiet) e
call_in p K.Refresh n e =
    stands (12 ∷ []) p.book _ n
    (λ b. under _ (refresh_number (terms_on p) b) n (R.Price b.count (book_sums (terms_on p) b)) refl (price b.count (book_sums (terms_on p) b))) e
call_in p (K.Rate f r) n e = under _ (rate_number f) n R.Quiet refl quiet e
call_in p (K.Cut c) n e = absurd (quiet n e)

-- ---- not written down

some_number : (j n : ℕ) → refused_or j R.Quiet ≡ R.Refused n → (k : ℕ) × (j ≡ suc k)
some_number zero n e = absurd (quiet n e)
some_number (suc j) n e = (j, refl)

edit_unwritten : (number : Book → ℕ) (change : Book → Book) (b : Option Book) (n : ℕ) → on_stand b (λ b. refused_or (number b) R.Quiet) ≡ R.Refused n
    → on_book (λ b. unless (number b) b (change b)) b ≡ b
unfolding on_book unless
edit_unwritten number change none n e = refl
edit_unwritten number change (some b) n e = ap (λ (j : ℕ). some (unless j b (change b))) (some_number (number b) n e).1

pub call-unwritten : (p : Page) (c : Call) (n : ℕ) → reply_to p c ≡ R.Refused n → write p c ≡ p
unfolding reply_to write opened set_on fill_on rate_number first
call-unwritten p (K.Open o size) n e =
    ap (λ (j : ℕ). with_book p (opened j p.book (opened_shape o size))) (some_number (open_number (opened_shape o size)) n e).1
call-unwritten p (K.Set c v) n e = ap (with_book p) (edit_unwritten (set_number c v) (λ b. set_book b c v) p.book n e)
call-unwritten p (K.Fill c d v) n e =
    ap (with_book p) (edit_unwritten (fill_number c d) (λ b. set_all b (box_cells b.shape (box_of b.shape c d)) v) p.book n e)
call-unwritten p K.Refresh n e = refl
call-unwritten p (K.Rate f r) n e = by (leb 1 f && leb f 63) e
  where
    by : (x : Bool) → refused_or (first ((not x ⇒ 12) ∷ [])) R.Quiet ≡ R.Refused n
        → record { book = p.book; rates = cond x (set p.rates f r) p.rates; cut = p.cut } ≡ p
    by true e = absurd (quiet n e)
    by false e = refl
call-unwritten p (K.Cut c) n e = absurd (quiet n e)
