-- A number read digit by digit, held to the most of a u64.
use Rattle.std.proofs.Common.{◌≡◌, ℕ, ◌-◌, ◌^◌, min, List, [], ◌∷◌, fold, refl, arith}
use Rattle.quote.specs.Number.{add_digit, add_held}

-- numbers that are held alike go on alike
go_on : (digits : List ℕ) (m n : ℕ) → m ≡ min n (2 ^ 64 - 1) → fold add_held m digits ≡ min (fold add_digit n digits) (2 ^ 64 - 1)
go_on [] m n e = e
go_on (b ∷ bs) m n e = go_on bs (add_held m b) (add_digit n b) (omega arith)

pub held : (digits : List ℕ) → fold add_held 0 digits ≡ min (fold add_digit 0 digits) (2 ^ 64 - 1)
held digits = go_on digits 0 0 refl
