-- Terms and the digest's fold are one to one: document 02, 2.3.
use Rattle.std.proofs.Common.{◌≡◌, ℕ, zero, suc, ◌+◌, ◌*◌, ◌/◌, ◌%◌, ◌^◌, ◌<◌, List, [], ◌∷◌, ◌++◌, length, get_or, sym, refl, ap, ◌∙◌, le_of_suc-le-suc, lt_of_le_of_lt, mod-lt, arith, ext_get_or, pow_pos}
use lib.Bits.{bit_xor, xor_lt}
use lib.Pow.{shr_le}
use Rattle.arith.specs.Wrap.{mul64}
use Rattle.arith.proofs.Xor.{xor_cancel, xor_cancel_l, xor_shift_inj}
use Rattle.arith.proofs.wrap.Laws.{add_inj, mul_inj, mul-lt}
use Rattle.stand.specs.Hash.{fold_word, fold_words, split_mix, term_of, xor_shift}

-- ---- the inverses of the three factors, modulo 2 ^ 64

first_inverse : mul64 0xbf58476d1ce4e5b9 0x96de1b173f119089 ≡ 1
unfolding mul64
first_inverse = refl

second_inverse : mul64 0x94d049bb133111eb 0x319642b2d24d8ec3 ≡ 1
unfolding mul64
second_inverse = refl

fold_inverse : mul64 0x100000001b3 0xce965057aff6957b ≡ 1
unfolding mul64
fold_inverse = refl

-- ---- SplitMix64

shift_lt : (k a : ℕ) → a < 2 ^ 64 → xor_shift k a < 2 ^ 64
unfolding xor_shift
shift_lt k a l = xor_lt 64 a (a / 2 ^ k) l (lt_of_le_of_lt (shr_le a k) l)

shift_inj : (k a b : ℕ) → xor_shift (suc k) a ≡ xor_shift (suc k) b → a ≡ b
unfolding xor_shift
shift_inj = xor_shift_inj

-- one round: shifted, then multiplied by a factor that has an inverse
round_inj : (k c d a b : ℕ) → mul64 c d ≡ 1 → a < 2 ^ 64 → b < 2 ^ 64 → mul64 (xor_shift (suc k) a) c ≡ mul64 (xor_shift (suc k) b) c → a ≡ b
round_inj k c d a b u la lb e =
    shift_inj k a b (mul_inj c d (xor_shift (suc k) a) (xor_shift (suc k) b) u (shift_lt (suc k) a la) (shift_lt (suc k) b lb) e)

-- it is one to one
pub mix_inj : (a b : ℕ) → a < 2 ^ 64 → b < 2 ^ 64 → split_mix a ≡ split_mix b → a ≡ b
unfolding split_mix
mix_inj a b la lb e =
    let x = (a + 0x9e3779b97f4a7c15) % 2 ^ 64 in
    let y = (b + 0x9e3779b97f4a7c15) % 2 ^ 64 in
    let x' = mul64 (xor_shift 30 x) 0xbf58476d1ce4e5b9 in
    let y' = mul64 (xor_shift 30 y) 0xbf58476d1ce4e5b9 in
    let x'' = mul64 (xor_shift 27 x') 0x94d049bb133111eb in
    let y'' = mul64 (xor_shift 27 y') 0x94d049bb133111eb in
    add_inj 0x9e3779b97f4a7c15 a b la lb (omega arith)
    (round_inj 29 0xbf58476d1ce4e5b9 0x96de1b173f119089 x y first_inverse (mod-lt (a + 0x9e3779b97f4a7c15) (pow_pos 64)) (mod-lt (b + 0x9e3779b97f4a7c15) (pow_pos 64))
    (round_inj 26 0x94d049bb133111eb 0x319642b2d24d8ec3 x' y' second_inverse (mul-lt _ _) (mul-lt _ _)
    (shift_inj 30 x'' y'' e)))

mix_lt : (x : ℕ) → split_mix x < 2 ^ 64
unfolding split_mix
mix_lt x = shift_lt 31 _ (mul-lt _ _)

-- the one number that it takes to 0
zero-at : split_mix 0x61c8864680b583eb ≡ 0
unfolding split_mix xor_shift mul64
zero-at = refl

-- no number below 2 ^ 36 is that one
pub mix_some : (x : ℕ) → x < 2 ^ 36 → split_mix x ≡ 0 → ⊥
mix_some x l e =
    let q : x ≡ 0x61c8864680b583eb = mix_inj x 0x61c8864680b583eb (omega arith) (omega arith) (e ∙ sym zero-at) in
    omega arith

-- ---- terms

-- what a term takes is packed one to one, below 2 ^ 28
pub packed_inj : (w x v u : ℕ) → v < 65536 → u < 65536 → w * 2 ^ 16 + v ≡ x * 2 ^ 16 + u → (w ≡ x) × (v ≡ u)
packed_inj w x v u lv lu e = (omega arith, omega arith)

pub packed_lt : (w v : ℕ) → w < 4096 → v < 65536 → w * 2 ^ 16 + v < 2 ^ 28
packed_lt w v l lv = omega arith

-- no two terms are equal, and none is 0
pub term_inj : (w x v u : ℕ) → w < 4096 → x < 4096 → v < 65536 → u < 65536 → term_of w v ≡ term_of x u → (w ≡ x) × (v ≡ u)
unfolding term_of
term_inj w x v u lw lx lv lu e =
    packed_inj w x v u lv lu (mix_inj (w * 2 ^ 16 + v) (x * 2 ^ 16 + u) (omega (arith, packed_lt w v lw lv)) (omega (arith, packed_lt x u lx lu)) e)

pub term_some : (w v : ℕ) → w < 4096 → v < 65536 → term_of w v ≡ 0 → ⊥
unfolding term_of
term_some w v l lv e = mix_some (w * 2 ^ 16 + v) (omega (arith, packed_lt w v l lv)) e

pub term_lt : (w v : ℕ) → term_of w v < 2 ^ 64
unfolding term_of
term_lt w v = mix_lt (w * 2 ^ 16 + v)

-- ---- the digest's fold

fold-lt : (a w : ℕ) → fold_word a w < 2 ^ 64
unfolding fold_word
fold-lt a w = mul-lt (bit_xor a w) 0x100000001b3

-- one to one in what was folded before, and in the word
pub fold_acc : (a b w : ℕ) → a < 2 ^ 64 → b < 2 ^ 64 → w < 2 ^ 64 → fold_word a w ≡ fold_word b w → a ≡ b
unfolding fold_word
fold_acc a b w la lb lw e =
    xor_cancel a b w (mul_inj 0x100000001b3 0xce965057aff6957b (bit_xor a w) (bit_xor b w) fold_inverse (xor_lt 64 a w la lw) (xor_lt 64 b w lb lw) e)

pub fold_word_lem : (a v w : ℕ) → a < 2 ^ 64 → v < 2 ^ 64 → w < 2 ^ 64 → fold_word a v ≡ fold_word a w → v ≡ w
unfolding fold_word
fold_word_lem a v w la lv lw e =
    xor_cancel_l a v w (mul_inj 0x100000001b3 0xce965057aff6957b (bit_xor a v) (bit_xor a w) fold_inverse (xor_lt 64 a v la lv) (xor_lt 64 a w la lw) e)

pub folds_lt : (a : ℕ) (xs : List ℕ) → a < 2 ^ 64 → fold_words a xs < 2 ^ 64
unfolding fold_words
folds_lt a [] l = l
folds_lt a (x ∷ xs) l = folds_lt (fold_word a x) xs (fold-lt a x)

pub folds_append : (a : ℕ) (xs ys : List ℕ) → fold_words a (xs ++ ys) ≡ fold_words (fold_words a xs) ys
unfolding fold_words
folds_append a [] ys = refl
folds_append a (x ∷ xs) ys = folds_append (fold_word a x) xs ys

-- each entry is a 64-bit value
abbrev pub Words : List ℕ → Type 0
Words xs = (i : ℕ) → get_or xs i 0 < 2 ^ 64

-- folds of the same words start alike
folds_acc : (a b : ℕ) (ws : List ℕ) → a < 2 ^ 64 → b < 2 ^ 64 → Words ws → fold_words a ws ≡ fold_words b ws → a ≡ b
unfolding fold_words
folds_acc a b [] la lb h e = e
folds_acc a b (w ∷ ws) la lb h e =
    fold_acc a b w la lb (h zero) (folds_acc (fold_word a w) (fold_word b w) ws (fold-lt a w) (fold-lt b w) (λ i. h (suc i)) e)

-- lists that differ in one word at most, and have the same fold, have that word in common too
pub folds_inj : (a : ℕ) (xs ys : List ℕ) (i : ℕ) → a < 2 ^ 64 → length xs ≡ length ys → i < length xs → Words xs → Words ys
    → ((j : ℕ) → (j ≡ i → ⊥) → get_or xs j 0 ≡ get_or ys j 0) → fold_words a xs ≡ fold_words a ys → get_or xs i 0 ≡ get_or ys i 0
unfolding fold_words
folds_inj a [] ys i la n l wx wy h e = absurd (omega arith)
folds_inj a (x ∷ xs) [] i la n l wx wy h e = absurd (omega arith)
folds_inj a (x ∷ xs) (y ∷ ys) zero la n l wx wy h e =
    let m : length xs ≡ length ys = omega arith in
    let t : xs ≡ ys = ext_get_or 0 xs ys m (λ j _. h (suc j) (λ q. omega arith)) in
    fold_word_lem a x y la (wx zero) (wy zero)
    (folds_acc (fold_word a x) (fold_word a y) xs (fold-lt a x) (fold-lt a y) (λ j. wx (suc j)) (e ∙ ap (fold_words (fold_word a y)) (sym t)))
folds_inj a (x ∷ xs) (y ∷ ys) (suc i) la n l wx wy h e =
    folds_inj (fold_word a x) xs ys i (fold-lt a x) (omega arith) (le_of_suc-le-suc l) (λ j. wx (suc j)) (λ j. wy (suc j))
    (λ j q. h (suc j) (λ p. q (omega arith)))
    (e ∙ ap (λ (z : ℕ). fold_words (fold_word a z) ys) (sym (h zero (λ p. omega arith))))
