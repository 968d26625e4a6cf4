-- Laws of refusals: a table begun by another, and the answer under its number.
use Rattle.std.proofs.Common.{◌≡◌, ℕ, zero, suc, Bool, true, false, List, [], ◌∷◌, ◌++◌, Result, Err, sym, refl, ap, ◌∙◌, arith}
use mathlib.Core.Bool.{false≢true}
use Rattle.std.specs.Result.{IsErrAnd}
use Rattle.std.proofs.lemmas.Result.{err_from_is_err_and}
use Rattle.stand.specs.Answer.{answer_of, refusal_number}
use Rattle.stand.specs.Refusal.{Answer, Rule, ◌⇒◌, answer, first, gives, refused}
use Rattle.stand.specs.declared.volume.refusal.Refusal.{Refusal}
use Rattle.stand.specs.declared.volume.refusal.Refusal.TheVariants as R

-- a number that is not 0 is the answer
pub turned : {A : Type 0} (n : ℕ) (a : A) → (n ≡ 0 → ⊥) → refused n ≡ answer n a
unfolding answer
turned zero a h = absurd (h refl)
turned (suc n) a h = refl

pub accepted : {A : Type 0} {n : ℕ} (a : A) → n ≡ 0 → gives a ≡ answer n a
unfolding answer
accepted a e = rw e

-- what an answer says of its number and value
pub refused_by : {A : Type 0} (m n : ℕ) (a : A) → refused n ≡ answer m a → (m ≡ 0 → ⊥) × (n ≡ m)
unfolding answer
refused_by zero n a e = let z : ◌≡◌ {A = ℕ} 0 1 = cc in absurd (omega arith)
refused_by (suc m) n a e = ((λ h. omega arith), (cc))

pub given_by : {A : Type 0} (m : ℕ) (a v : A) → gives v ≡ answer m a → (m ≡ 0) × (v ≡ a)
unfolding answer
given_by zero a v e = (refl, (cc))
given_by (suc m) a v e = let z : ◌≡◌ {A = ℕ} 0 1 = cc in absurd (omega arith)

-- no refusal gives a value
pub never_given : {A : Type 0} {n : ℕ} {a : A} → ◌≡◌ {A = Answer A} (refused n) (gives a) → ⊥
never_given e = let z : ◌≡◌ {A = ℕ} 0 1 = cc in omega arith

-- where the first part of a table applies, the whole gives its number
pub first_part : (rs qs : List Rule) → (first rs ≡ 0 → ⊥) → first (rs ++ qs) ≡ first rs
unfolding first
first_part [] qs h = absurd (h refl)
first_part ((true ⇒ n) ∷ rs) qs h = refl
first_part ((false ⇒ n) ∷ rs) qs h = first_part rs qs h

-- a table that gives no number begins with a test that fails
pub passes : (b : Bool) (n : ℕ) (rs : List Rule) → first ((b ⇒ suc n) ∷ rs) ≡ 0 → (b ≡ false) × (first rs ≡ 0)
unfolding first
passes true n rs e = absurd (omega arith)
passes false n rs e = (refl, e)

-- a table with no number 0
unfoldable pub numbered : List Rule → Bool
numbered [] = true
numbered ((b ⇒ zero) ∷ rs) = false
numbered ((b ⇒ suc n) ∷ rs) = numbered rs

-- where it does not, the rest decides
pub first_rest : (rs qs : List Rule) → numbered rs ≡ true → first rs ≡ 0 → first (rs ++ qs) ≡ first qs
unfolding first numbered
first_rest [] qs m h = refl
first_rest ((true ⇒ zero) ∷ rs) qs m h = absurd (false≢true m)
first_rest ((true ⇒ suc n) ∷ rs) qs m h = absurd (omega arith)
first_rest ((false ⇒ zero) ∷ rs) qs m h = absurd (false≢true m)
first_rest ((false ⇒ suc n) ∷ rs) qs m h = first_rest rs qs m h

-- ---- the code's Results: what an exit by `?` answers, and what is left after it

pub some_number : (r : Refusal) → refusal_number r ≡ 0 → ⊥
some_number R.TooManyChunks e = omega arith
some_number R.LastCellPastI32 e = omega arith
some_number R.NotOpened e = omega arith
some_number R.WrongLength e = omega arith
some_number R.CellOutside e = omega arith
some_number R.GenerationsSpent e = omega arith
some_number R.NoSuchChunk e = omega arith
some_number R.MarkAhead e = omega arith
some_number R.MarkTooOld e = omega arith
some_number R.MaskTooShort e = omega arith
some_number R.Unpriced e = omega arith
some_number R.Implausible e = omega arith
some_number R.BadForm e = omega arith
some_number R.OutputTooShort e = omega arith

-- a refusal under a table's number is the table's answer
pub refuses : {A : Type 0} {n : ℕ} (r : Refusal) (a : A) → refusal_number r ≡ n → refused (refusal_number r) ≡ answer n a
refuses r a e = turned (refusal_number r) a (some_number r) ∙ ap (λ (m : ℕ). answer m a) e

-- an exit by `?` returns the refusal that it met
pub exit_is : {A : Type 0} (e : Refusal) (r : Result A Refusal) → IsErrAnd r (λ f. f ≡ e) → r ≡ Err e
exit_is e r x =
    let p = err_from_is_err_and r x in
    p.1 ∙ ap Err p.2

-- so it answers as a table that gives this refusal's number
pub exits : {A : Type 0} {n : ℕ} (e : Refusal) (r : Result A Refusal) (a : A) → IsErrAnd r (λ f. f ≡ e) → refusal_number e ≡ n → answer_of r ≡ answer n a
exits e r a x d = ap answer_of (exit_is e r x) ∙ refuses e a d

-- a table begun by one that gives a refusal's number gives it too
pub begun : (r : Refusal) (rs qs : List Rule) → refusal_number r ≡ first rs → refusal_number r ≡ first (rs ++ qs)
begun r rs qs e = e ∙ sym (first_part rs qs (λ z. some_number r (e ∙ z)))
