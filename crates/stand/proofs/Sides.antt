-- The rule of the sides, proved once over the six.
use Rattle.std.proofs.Common.{◌≡◌, ℕ, zero, suc, ◌<◌, Bool, true, false, eqb, ltb, refl, arith, ltb-true}
use borrow.Author.Tests.{eqb-false}
use Rattle.stand.specs.Sides.{first_at, normal_at, second_at, side_number}
use Rattle.stand.specs.declared.Face.{Face}
use Rattle.stand.specs.declared.Face.TheVariants.{East, West, Top, Bottom, North, South}

-- what holds of 0 to 5 holds of each side
pub six : (P : ℕ → Type 0) → P 0 → P 1 → P 2 → P 3 → P 4 → P 5 → (s : ℕ) → s < 6 → P s
six P a b c d e f zero l = a
six P a b c d e f (suc zero) l = b
six P a b c d e f (suc (suc zero)) l = c
six P a b c d e f (suc (suc (suc zero))) l = d
six P a b c d e f (suc (suc (suc (suc zero)))) l = e
six P a b c d e f (suc (suc (suc (suc (suc zero))))) l = f
six P a b c d e f (suc (suc (suc (suc (suc (suc s)))))) l = absurd (omega arith)

pub side-lt : (f : Face) → side_number f < 6
side-lt East = omega arith
side-lt West = omega arith
side-lt Top = omega arith
side-lt Bottom = omega arith
side-lt North = omega arith
side-lt South = omega arith

-- three axes, all different, those of the plane in order
pub record Apart (n f s : ℕ) : Type 0 where
  pub order : f < s
  pub last : s < 3
  pub normal : n < 3
  pub not_first : n ≡ f → ⊥
  pub not_second : n ≡ s → ⊥

abbrev Test : ℕ → ℕ → ℕ → Type 0
Test n f s = (ltb f s ≡ true) × (ltb s 3 ≡ true) × (ltb n 3 ≡ true) × (eqb n f ≡ false) × (eqb n s ≡ false)

pub axes-apart : (s : ℕ) → s < 6 → Apart (normal_at s) (first_at s) (second_at s)
unfolding normal_at first_at second_at
axes-apart s l = tested (six (λ s. Test (normal_at s) (first_at s) (second_at s)) ok ok ok ok ok ok s l)
  where
    ok : {a b c d e : Bool} → (a ≡ a) × (b ≡ b) × (c ≡ c) × (d ≡ d) × (e ≡ e)
    ok = (refl, refl, refl, refl, refl)

    tested : {n f t : ℕ} → Test n f t → Apart n f t
    tested h =
        record {
          order = ltb-true _ _ h.0;
          last = ltb-true _ _ h.1;
          normal = ltb-true _ _ h.2;
          not_first = eqb-false _ _ h.3;
          not_second = eqb-false _ _ h.4;
        }
