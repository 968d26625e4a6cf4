-- Document 01, 'The stand', term and digest.
use Rattle.std.specs.List.{fold}
use Rattle.std.specs.Prelude.{ℕ, ◌+◌, ◌*◌, ◌/◌, ◌%◌, ◌^◌, List, [], ◌∷◌, ◌++◌, ℤ, bit_xor}
use Rattle.arith.specs.Level.{pattern_of}
use Rattle.arith.specs.Wrap.{mul64}
use Rattle.stand.specs.declared.volume.Volume.{Volume}

-- z XOR z shifted right by k
unfoldable pub xor_shift : ℕ → ℕ → ℕ
xor_shift k z = bit_xor z (z / 2 ^ k)

-- Vigna's splitmix64.c: next() at the state x
unfoldable pub split_mix : ℕ → ℕ
split_mix x =
    xor_shift 31
    (mul64 (xor_shift 27
    (mul64 (xor_shift 30
    ((x + 0x9e3779b97f4a7c15) % 2 ^ 64))
    0xbf58476d1ce4e5b9))
    0x94d049bb133111eb)

unfoldable pub term_of : ℕ → ℕ → ℕ
term_of within finish = split_mix (within * 2 ^ 16 + finish)

-- one 64-bit value folded into the digest
unfoldable pub fold_word : ℕ → ℕ → ℕ
fold_word acc word = mul64 (bit_xor acc word) 0x100000001b3

unfoldable pub fold_words : ℕ → List ℕ → ℕ
fold_words = fold fold_word

-- origin, section counts and sizes, each the unsigned 32-bit pattern
unfoldable pub shape_words : Volume → List ℕ
shape_words v =
    pattern_of v.origin.x ∷ pattern_of v.origin.y ∷ pattern_of v.origin.z
    ∷ pattern_of v.chunks.x ∷ pattern_of v.chunks.y ∷ pattern_of v.chunks.z
    ∷ pattern_of v.size.x ∷ pattern_of v.size.y ∷ pattern_of v.size.z ∷ []

unfoldable pub digest_start : ℕ
digest_start = 0xcbf29ce484222325

-- then the hashes in order
unfoldable pub digest_of : Volume → List ℕ → ℕ
digest_of v hashes = fold_words digest_start (shape_words v ++ hashes)

-- ---- for the code: three values at a time

unfoldable pub fold_three : ℕ → ℤ → ℤ → ℤ → ℕ
fold_three acc x y z = fold_words acc (pattern_of x ∷ pattern_of y ∷ pattern_of z ∷ [])
