-- Tests taken apart, and put together.
use Rattle.std.proofs.Common.{◌≡◌, ℕ, Bool, true, false, ◌||◌, eqb, sym, refl, ◌∙◌, true≢false, eq-eqb, eqb-true}
pub use Rattle.std.proofs.Math.Bool.{or-false as or_none}
pub use Rattle.std.proofs.lemmas.Bool.{and_parts as both, and_from as and_both, or_cases, or_left, or_right, or_parts as neither}
pub use Rattle.std.specs.Cmp.{both_ways}

-- a test that cannot hold
pub refuted : (b : Bool) → (b ≡ true → ⊥) → false ≡ b
refuted true h = absurd (h refl)
refuted false h = refl

-- a test, with its answer
pub by-test {κ} : {C : Type κ} (b : Bool) → (b ≡ true → C) → (b ≡ false → C) → C
by-test true f g = f refl
by-test false f g = g refl

-- ---- two tests together

pub or_assoc : (a b c : Bool) → (a || (b || c)) ≡ ((a || b) || c)
or_assoc true b c = refl
or_assoc false b c = refl

pub not_both : (a : Bool) → a ≡ true → a ≡ false → ⊥
not_both a p q = true≢false (sym p ∙ q)

pub eqb_sym : (a b : ℕ) → eqb a b ≡ eqb b a
eqb_sym a b = both_ways (eqb a b) (eqb b a) (λ e. eq-eqb b a (sym (eqb-true a b e))) (λ e. eq-eqb a b (sym (eqb-true b a e)))
