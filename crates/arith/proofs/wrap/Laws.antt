-- Sums and products modulo 2 ^ 64 that are one to one: adding a constant, and multiplying by a number that has an inverse.
use Rattle.std.proofs.Common.{◌≡◌, ℕ, ◌+◌, ◌*◌, ◌%◌, ◌^◌, ◌<◌, sym, ap, ◌∙◌, mod-lt, mod-eq_of_lt, mul_assoc, mul-one, arith, pow_pos}
use Rattle.std.proofs.lemmas.Nat.{mul-mod_first, mul-mod_second}
use Rattle.arith.specs.Wrap.{mul64}

pub mul-lt : (a c : ℕ) → mul64 a c < 2 ^ 64
unfolding mul64
mul-lt a c = mod-lt (a * c) (pow_pos 64)

pub add_inj : (c a b : ℕ) → a < 2 ^ 64 → b < 2 ^ 64 → c < 2 ^ 64 → (a + c) % 2 ^ 64 ≡ (b + c) % 2 ^ 64 → a ≡ b
add_inj c a b la lb lc e = omega arith

-- c and d are inverse: a product by c is undone by d
mul_undo : (c d a : ℕ) → mul64 c d ≡ 1 → a < 2 ^ 64 → mul64 (mul64 a c) d ≡ a
unfolding mul64
mul_undo c d a u l =
    mul-mod_first (a * c) d (2 ^ 64)
    ∙ ap (λ (n : ℕ). n % 2 ^ 64) (mul_assoc a c d)
    ∙ sym (mul-mod_second a (c * d) (2 ^ 64))
    ∙ ap (λ (n : ℕ). (a * n) % 2 ^ 64) u
    ∙ ap (λ (n : ℕ). n % 2 ^ 64) (mul-one a)
    ∙ mod-eq_of_lt l

pub mul_inj : (c d a b : ℕ) → mul64 c d ≡ 1 → a < 2 ^ 64 → b < 2 ^ 64 → mul64 a c ≡ mul64 b c → a ≡ b
mul_inj c d a b u la lb e = sym (mul_undo c d a u la) ∙ ap (λ (n : ℕ). mul64 n d) e ∙ mul_undo c d b u lb
