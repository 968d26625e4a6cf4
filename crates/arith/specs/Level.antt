-- Signed 32-bit numbers as naturals.
use Rattle.std.specs.Prelude.{ℕ, suc, ◌+◌, ◌-◌, min, cond, ℤ, pos, negsuc, nat_lt}

-- z + 2 ^ 31
abbrev pub level_of : ℤ → ℕ
level_of (pos n) = 2147483648 + n
level_of (negsuc n) = 2147483648 - suc n

-- a size or a count: 0 for a negative one
abbrev pub count_of : ℤ → ℕ
count_of (pos n) = n
count_of (negsuc n) = 0

-- the unsigned number of the same 32 bits
abbrev pub pattern_of : ℤ → ℕ
pattern_of (pos n) = n
pattern_of (negsuc n) = 4294967296 - suc n

-- the i32 of a level; past the last level the largest
unfoldable pub number_of : ℕ → ℤ
number_of l = cond (nat_lt l 2147483648) (negsuc (2147483647 - l)) (pos (min (l - 2147483648) 2147483647))
