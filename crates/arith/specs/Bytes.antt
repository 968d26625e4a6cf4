-- Little-endian numbers in a list of bytes: document 01, 'Trial program', and document 02, 2.2. A byte past the end reads as 0.
use Rattle.std.specs.Prelude.{ℕ, ◌+◌, ◌-◌, ◌*◌, ◌/◌, ◌%◌, ◌<◌, cond, List, [], ◌∷◌, ◌++◌, ℤ, pos, negsuc, nat_lt, slice_index}

-- ---- read from a place on

abbrev pub byte_at : List ℕ → ℕ → ℕ
byte_at b at = slice_index b at

-- each below 256, as in a slice of bytes
abbrev pub Bytes : List ℕ → Type 0
Bytes b = (i : ℕ) → byte_at b i < 256

-- u16
unfoldable pub short_at : List ℕ → ℕ → ℕ
short_at b at = byte_at b at + 256 * byte_at b (at + 1)

-- u32
unfoldable pub word_at : List ℕ → ℕ → ℕ
word_at b at = short_at b at + 65536 * short_at b (at + 2)

-- u64
unfoldable pub double_at : List ℕ → ℕ → ℕ
double_at b at = word_at b at + 4294967296 * word_at b (at + 4)

-- two's complement
unfoldable pub signed_of : ℕ → ℤ
signed_of n = cond (nat_lt n 2147483648) (pos n) (negsuc (4294967295 - n))

-- i32
unfoldable pub signed_at : List ℕ → ℕ → ℤ
signed_at b at = signed_of (word_at b at)

-- ---- written

unfoldable pub short_bytes : ℕ → List ℕ
short_bytes n = n % 256 ∷ n / 256 % 256 ∷ []

unfoldable pub word_bytes : ℕ → List ℕ
word_bytes n = short_bytes (n % 65536) ++ short_bytes (n / 65536)

unfoldable pub double_bytes : ℕ → List ℕ
double_bytes n = word_bytes (n % 4294967296) ++ word_bytes (n / 4294967296)
