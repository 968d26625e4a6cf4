-- Laws of XOR that the library leaves: it undoes itself and cancels; a number XOR itself shifted right is one to one.
use Rattle.std.proofs.Common.{◌≡◌, ℕ, suc, ◌/◌, ◌^◌, ◌≤◌, sym, ap, ◌∙◌, subst, one-add, arith, shr-shr}
use lib.Bits.{bit_xor, xor_assoc, xor_comm, xor_self, xor_shr, xor_zero_r}
use lib.Pow.{shr_le}

-- a term taken in and out again
pub xor_undo : (h t : ℕ) → bit_xor (bit_xor h t) t ≡ h
xor_undo h t = xor_assoc h t t ∙ ap (bit_xor h) (xor_self t) ∙ xor_zero_r h

-- two terms in either order
pub xor_swap : (h s t : ℕ) → bit_xor (bit_xor h s) t ≡ bit_xor (bit_xor h t) s
xor_swap h s t = xor_assoc h s t ∙ ap (bit_xor h) (xor_comm s t) ∙ sym (xor_assoc h t s)

-- ---- one to one

-- what is XORed on the right cancels, and on the left
pub xor_cancel : (a b t : ℕ) → bit_xor a t ≡ bit_xor b t → a ≡ b
xor_cancel a b t e = sym (xor_undo a t) ∙ ap (λ (x : ℕ). bit_xor x t) e ∙ xor_undo b t

pub xor_cancel_l : (t a b : ℕ) → bit_xor t a ≡ bit_xor t b → a ≡ b
xor_cancel_l t a b e = xor_cancel a b t (xor_comm a t ∙ e ∙ xor_comm t b)

-- numbers that XOR to 0 are equal
xor_equal : (a b : ℕ) → bit_xor a b ≡ 0 → a ≡ b
xor_equal a b e = xor_cancel a b b (e ∙ sym (xor_self b))

-- what leaves a number as it was is 0
pub xor_kept : (h t : ℕ) → bit_xor h t ≡ h → t ≡ 0
xor_kept h t e = xor_cancel_l h t 0 (e ∙ sym (xor_zero_r h))

-- shifted right by one or more, a number is at most its half
shift_half : (k z : ℕ) → z / 2 ^ suc k ≤ z / 2
shift_half k z = subst (λ (n : ℕ). n ≤ z / 2) (shr-shr z 1 k ∙ ap (λ (n : ℕ). z / 2 ^ n) (one-add k)) (shr_le (z / 2) k)

-- so one that is itself shifted right is 0
shift_none : (k z : ℕ) → z ≡ z / 2 ^ suc k → z ≡ 0
shift_none k z e = below z (z / 2 ^ suc k) e (shift_half k z)
  where
    below : (z y : ℕ) → z ≡ y → y ≤ z / 2 → z ≡ 0
    below z y e h = omega arith

-- so a number XOR itself shifted right tells the number: of two that agree, the XOR is its own shift
pub xor_shift_inj : (k a b : ℕ) → bit_xor a (a / 2 ^ suc k) ≡ bit_xor b (b / 2 ^ suc k) → a ≡ b
xor_shift_inj k a b e =
    xor_equal a b
    (shift_none k (bit_xor a b)
    (xor_equal (bit_xor a b) (bit_xor a b / 2 ^ suc k)
    (ap (bit_xor (bit_xor a b)) (xor_shr a b (suc k)) ∙ four (a / 2 ^ suc k) (b / 2 ^ suc k) ∙ ap (λ (n : ℕ). bit_xor n (bit_xor b (b / 2 ^ suc k))) e ∙ xor_self (bit_xor b (b / 2 ^ suc k)))))
  where
    four : (x y : ℕ) → bit_xor (bit_xor a b) (bit_xor x y) ≡ bit_xor (bit_xor a x) (bit_xor b y)
    four x y = sym (xor_assoc (bit_xor a b) x y) ∙ ap (λ (n : ℕ). bit_xor n y) (xor_swap a b x) ∙ xor_assoc (bit_xor a x) b y
