-- The order of the integers, and of sums.
use Rattle.std.proofs.Common.{◌≡◌, ℕ, zero, suc, Bool, true, false, not, ltb, leb, ℤ, pos, negsuc, ◌+ℤ◌, ◌-ℤ◌, sym, refl, ap, ◌∙◌, le_of_lt, ltb-true, le-ltb, lt-ltb, le-leb, leb-false, leb-true}
use lib.Dec.{leb-zero, leb-suc-zero, leb-suc-suc}
use lib.IntN.{suc_ℤ, +ℤ_idr, +ℤ_one, +ℤ-suc_ℤ, -ℤ-+ℤ_cancel}
use lib.Signed.{le_z, lt_z}

-- ---- two integers moved alike

suc-le : (a b : ℤ) → le_z (suc_ℤ a) (suc_ℤ b) ≡ le_z a b
suc-le (pos a) (pos b) = leb-suc-suc a b
suc-le (pos a) (negsuc zero) = leb-suc-zero a
suc-le (pos a) (negsuc (suc b)) = refl
suc-le (negsuc zero) (pos b) = leb-zero (suc b)
suc-le (negsuc (suc a)) (pos b) = refl
suc-le (negsuc zero) (negsuc zero) = refl
suc-le (negsuc zero) (negsuc (suc b)) = sym (leb-suc-zero b)
suc-le (negsuc (suc a)) (negsuc zero) = sym (leb-zero (suc a))
suc-le (negsuc (suc a)) (negsuc (suc b)) = sym (leb-suc-suc b a)

step-le : (a b c : ℤ) → le_z (a +ℤ suc_ℤ c) (b +ℤ suc_ℤ c) ≡ le_z (a +ℤ c) (b +ℤ c)
step-le a b c = (λ i. le_z (+ℤ-suc_ℤ a c i) (+ℤ-suc_ℤ b c i)) ∙ suc-le (a +ℤ c) (b +ℤ c)

-- keep their order
pub shift_le : (a b c : ℤ) → le_z (a +ℤ c) (b +ℤ c) ≡ le_z a b
shift_le a b (pos zero) = λ i. le_z (+ℤ_idr a i) (+ℤ_idr b i)
shift_le a b (pos (suc n)) = step-le a b (pos n) ∙ shift_le a b (pos n)
shift_le a b (negsuc zero) = sym (step-le a b (negsuc zero)) ∙ λ i. le_z (+ℤ_idr a i) (+ℤ_idr b i)
shift_le a b (negsuc (suc n)) = sym (step-le a b (negsuc (suc n))) ∙ shift_le a b (negsuc n)

-- a number is taken from one side to the other
pub sub-le : (a b c : ℤ) → le_z (a -ℤ c) b ≡ le_z a (b +ℤ c)
sub-le a b c = sym (shift_le (a -ℤ c) b c) ∙ ap (λ (z : ℤ). le_z z (b +ℤ c)) (-ℤ-+ℤ_cancel a c)

pub le-sub : (a b c : ℤ) → le_z a (b -ℤ c) ≡ le_z (a +ℤ c) b
le-sub a b c = sym (shift_le a (b -ℤ c) c) ∙ ap (le_z (a +ℤ c)) (-ℤ-+ℤ_cancel b c)

-- ---- at most, and above

pub ltb_not : (a b : ℕ) → ltb a b ≡ not (leb b a)
ltb_not a b = by (leb b a) refl
  where
    by : (t : Bool) → leb b a ≡ t → ltb a b ≡ not t
    by true e = le-ltb a b (leb-true b a e)
    by false e = lt-ltb a b (leb-false b a e)

suc-lt : (a b : ℤ) → le_z (suc_ℤ b) a ≡ lt_z b a
suc-lt (pos a) (pos b) = refl
suc-lt (pos a) (negsuc zero) = leb-zero a
suc-lt (pos a) (negsuc (suc b)) = refl
suc-lt (negsuc a) (pos b) = refl
suc-lt (negsuc a) (negsuc zero) = sym (leb-suc-zero a)
suc-lt (negsuc a) (negsuc (suc b)) = sym (leb-suc-suc a b)

-- what is at least b + 1 is above b
pub past-lt : (a b : ℤ) → le_z (b +ℤ pos 1) a ≡ lt_z b a
past-lt a b = ap (λ (z : ℤ). le_z z a) (+ℤ_one b) ∙ suc-lt a b

lt-le : (b a : ℤ) → lt_z b a ≡ true → le_z b a ≡ true
lt-le (pos b) (pos a) e = le-leb b a (le_of_lt (ltb-true b a e))
lt-le (pos b) (negsuc a) e = e
lt-le (negsuc b) (pos a) e = refl
lt-le (negsuc b) (negsuc a) e = le-leb a b (le_of_lt (ltb-true a b e))

pub lt_not : (a b : ℤ) → lt_z b a ≡ not (le_z a b)
lt_not (pos a) (pos b) = ltb_not b a
lt_not (pos a) (negsuc b) = refl
lt_not (negsuc a) (pos b) = refl
lt_not (negsuc a) (negsuc b) = ltb_not a b

-- of two integers one is at most the other
pub le-other : (a b : ℤ) → le_z a b ≡ false → le_z b a ≡ true
le-other a b e = lt-le b a (lt_not a b ∙ ap not e)
