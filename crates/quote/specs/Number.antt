-- Words as numbers.
use Rattle.std.specs.Prelude.{Bool, cond, not, ◌&&◌, List, [], ◌∷◌, ℕ, ◌+◌, ◌*◌, ◌-◌, ◌^◌, min, eqb, ltb, ℤ, pos, neg_ℤ, length, fold, Option, Some, None, Result, Ok, Err}
use Rattle.std.specs.Char.{is_ascii_digit}
use Rattle.std.specs.List.{list_all}
use Rattle.quote.specs.declared.fault.Fault.{Fault}
use Rattle.quote.specs.declared.fault.Fault.TheVariants.{NotANumber, NumberTooLarge}

-- one digit or more, and nothing else
unfoldable pub is_number : List ℕ → Bool
is_number word = not (eqb (length word) 0) && list_all is_ascii_digit word

-- a number, and one more digit
abbrev pub add_digit : ℕ → ℕ → ℕ
add_digit n b = n * 10 + (b - 48)

-- the same, held to the most of a u64
abbrev pub add_held : ℕ → ℕ → ℕ
add_held n b = min (min (n * 10) (2 ^ 64 - 1) + (b - 48)) (2 ^ 64 - 1)

-- the number that digits say
unfoldable pub value_of : List ℕ → ℕ
value_of word = fold add_digit 0 word

-- the number, held to the most of a u64
unfoldable pub digits_of : List ℕ → Option ℕ
digits_of word = cond (is_number word) (Some (min (value_of word) (2 ^ 64 - 1))) None

-- a number up to a limit: a finish, or cents
unfoldable pub amount_of : List ℕ → ℕ → Result ℕ Fault
amount_of word limit =
    cond (is_number word) (cond (ltb limit (value_of word)) (Err NumberTooLarge) (Ok (value_of word))) (Err NotANumber)

abbrev pub below : Result ℕ Fault → Result ℤ Fault
below (Ok n) = Ok (neg_ℤ (pos n))
below (Err f) = Err f

abbrev pub above : Result ℕ Fault → Result ℤ Fault
above (Ok n) = Ok (pos n)
above (Err f) = Err f

-- an i32: a '-' and up to 2 ^ 31, or up to 2 ^ 31 - 1
unfoldable pub coordinate_of : List ℕ → Result ℤ Fault
coordinate_of [] = above (amount_of [] 2147483647)
coordinate_of (b ∷ digits) = cond (eqb b 45) (below (amount_of digits 2147483648)) (above (amount_of (b ∷ digits) 2147483647))
