-- The premises of the claim ask no more than the demand: what may be lent, and what keeps to the terms, on any four.
use mathlib.Core.Path.{◌≡◌, refl, sym, ap, ◌∙◌, subst}
use mathlib.Core.Bool.{Bool, true, false, cond, not, false≢true, ◌||◌, ◌&&◌}
use mathlib.Core.List.{List}
use mathlib.Core.Option.{Option, none, some}
use Prim.Native.Nat.{ℕ, zero, suc, ◌-◌}
use lib.Dec.{eqb, ltb}
use native.Mathlib.Omega.{arith}
use Rattle.stand.specs.Edit as E
use Rattle.stand.specs.Edit.{Edited, last_generation, set_call, set_refusal}
use Rattle.stand.specs.Fill.{box_of, cells_in, fill_call, fill_refusal}
use Rattle.stand.specs.Refusal as R
use Rattle.stand.specs.Refusal.{Answer, first}
use Rattle.stand.specs.Shape.{Shape, inside, sections, shape_of, well_formed}
use Rattle.stand.specs.Storage.{State, Storage}
use Rattle.stand.specs.declared.Cell.{Cell}
use Rattle.stand.specs.declared.volume.Volume.{Volume}
use Rattle.sheet.specs.Calls as S
use Rattle.sheet.specs.Calls.{Verdict, all_priced, measure_refusal, measuring, want_of}
use Rattle.sheet.specs.Card.{Terms, limit}
use Rattle.sheet.specs.declared.Marks.{Marks}
use Rattle.ledger.specs.Book.{Edit}
use Rattle.ledger.specs.Breadth.{AnswersFour}
use Rattle.ledger.specs.Calls.{Call, Effect, Four, accepted, effect_of, given, unfit}
use Rattle.ledger.specs.Claim.{Keeps, KeepsTo, Lent, Own}
use Rattle.ledger.proofs.Following.{uses_so}
use Rattle.ledger.proofs.Kept.{LentBy}

-- ---- a call that answers 4 was lent lists of another length

abbrev number_of : {A : Type 0} → Answer A → ℕ
number_of (R.gives a) = 0
number_of (R.refused n) = n

abbrev verdict_number : Verdict → ℕ
verdict_number S.done = 0
verdict_number (S.refused n) = n

edit_number : (n : ℕ) (s : State) (e : Edited) → number_of (E.edited n s e).answer ≡ n
unfolding E.edited
edit_number zero s e = refl
edit_number (suc n) s e = refl

measure_number : (n : ℕ) (t : Terms) (v : Volume) (look : Cell → ℕ) (p : ℕ → Bool) (k : Marks) (m l : List ℕ) → verdict_number (measuring n t v look p k m l).verdict ≡ n
unfolding measuring
measure_number zero t v look p k m l = refl
measure_number (suc n) t v look p k m l = refl

rules_4 : (formed fits a b c : Bool) (x y z : ℕ) → (x ≡ 4 → ⊥) → (y ≡ 4 → ⊥) → (z ≡ 4 → ⊥)
    → cond (not formed) 3 (cond (not fits) 4 (cond a x (cond b y (cond c z 0)))) ≡ 4 → fits ≡ false
rules_4 formed false a b c x y z hx hy hz e = refl
rules_4 false true a b c x y z hx hy hz e = absurd (omega (arith, e))
rules_4 true true true b c x y z hx hy hz e = absurd (hx e)
rules_4 true true false true c x y z hx hy hz e = absurd (hy e)
rules_4 true true false false true x y z hx hy hz e = absurd (hz e)
rules_4 true true false false false x y z hx hy hz e = absurd (omega (arith, e))

set_4 : (formed fits : Bool) (g : Shape) (n old : ℕ) (c : Cell) (v : ℕ) → set_refusal formed fits g n old c v ≡ 4 → fits ≡ false
unfolding set_refusal first
set_4 formed fits g n old c v e = rules_4 formed fits (not (inside g c)) (eqb n last_generation && not (eqb old v)) false 5 6 0 (λ q. omega (arith, q)) (λ q. omega (arith, q)) (λ q. omega (arith, q)) e

fill_4 : (formed fits : Bool) (g : Shape) (n : ℕ) (c d : Cell) → fill_refusal formed fits g n c d ≡ 4 → fits ≡ false
unfolding fill_refusal first
fill_4 formed fits g n c d e = rules_4 formed fits (ltb (last_generation - n) (cells_in (box_of g c d))) false false 6 0 0 (λ q. omega (arith, q)) (λ q. omega (arith, q)) (λ q. omega (arith, q)) e

measure_4 : (t : Terms) (v : Volume) (look : Cell → ℕ) (p : ℕ → Bool) (fits ahead : Bool) (mask : ℕ) → measure_refusal t v look p fits ahead mask ≡ 4 → fits ≡ false
unfolding measure_refusal first
measure_4 t v look p fits ahead mask e = rules_4 (well_formed v) fits ahead (ltb mask (want_of (shape_of v) p (sections (shape_of v)))) (ltb limit t.cut || not (all_priced t.rates t.beyond (shape_of v) look p (sections (shape_of v)))) 8 10 12 (λ q. omega (arith, q)) (λ q. omega (arith, q)) (λ q. omega (arith, q)) e

unfit_so : (s : Four) (c : Call) (e : Effect) → AnswersFour (given s c) e → LentBy s c e
unfolding unfit set_call fill_call S.open_call S.refresh_call
unfit_so s c (Effect.opens_stand x) h = tt
unfit_so s c (Effect.edits (Edit.one x v)) h =
    uses_so (Effect.edits (Edit.one x v)) c.storage c.sheet (ap not (set_4 _ _ _ _ _ _ _ (sym (edit_number _ _ _) ∙ ap number_of h)))
unfit_so s c (Effect.edits (Edit.box x y v)) h =
    uses_so (Effect.edits (Edit.box x y v)) c.storage c.sheet (ap not (fill_4 _ _ _ _ _ _ (sym (edit_number _ _ _) ∙ ap number_of h)))
unfit_so s c (Effect.opens_sheet t m) h =
    uses_so (Effect.opens_sheet t m) c.storage c.sheet (ap not (measure_4 _ _ _ _ _ _ _ (sym (measure_number _ _ _ _ _ _ _ _) ∙ ap verdict_number h)))
unfit_so s c (Effect.refreshes t m) h =
    uses_so (Effect.refreshes t m) c.storage c.sheet (ap not (measure_4 _ _ _ _ _ _ _ (sym (measure_number _ _ _ _ _ _ _ _) ∙ ap verdict_number h)))
unfit_so s c Effect.leaves h = tt

pub answers_4 : (s : Four) (c : Call) → AnswersFour (given s c) (effect_of c.op) → Lent s c
unfolding Lent
answers_4 s c h = unfit_so s c (effect_of c.op) h

-- ---- an edit may be lent any sheet

abbrev is_none : {A : Type 0} → Option A → Bool
is_none none = true
is_none (some x) = false

some-none : {A : Type 0} {x : A} → some x ≡ none → ⊥
some-none q = false≢true (ap is_none q)

edit_lent : (s : Four) (c : Call) (e : Edit) → c.storage ≡ none → LentBy s c (Effect.edits e)
edit_lent s c e p = go c.storage p
  where
    go : (st : Option Storage) → st ≡ none → Own st (unfit (given s c) (Effect.edits e) ≡ true)
    go none q = tt
    go (some st) q = absurd (some-none q)

pub edits-own : (s : Four) (c : Call) (e : Edit) → effect_of c.op ≡ Effect.edits e → c.storage ≡ none → Lent s c
unfolding Lent
edits-own s c e h p = subst (LentBy s c) (sym h) (edit_lent s c e p)

-- ---- what keeps to the terms

module _ (t : Terms) (s : Four) (c : Call) where
  pub keeps-refused : accepted s c ≡ false → Keeps t s c
  unfolding Keeps
  keeps-refused f a = absurd (false≢true (sym f ∙ a))

  pub keeps-edits : (e : Edit) → effect_of c.op ≡ Effect.edits e → Keeps t s c
  unfolding Keeps
  keeps-edits e h a = subst (KeepsTo t) (sym h) tt

  pub keeps-leaves : effect_of c.op ≡ Effect.leaves → Keeps t s c
  unfolding Keeps
  keeps-leaves h a = subst (KeepsTo t) (sym h) tt

  pub keeps-refreshes : (m : List ℕ) → effect_of c.op ≡ Effect.refreshes t m → Keeps t s c
  unfolding Keeps
  keeps-refreshes m h a = subst (KeepsTo t) (sym h) refl
