-- The fields of a call: each is the line's next word, or three of them.
use Rattle.std.specs.Prelude.{List, ℕ, ℤ, ok_or, Result, Ok, Err}
use Rattle.std.specs.Borrow.{Bor}
use Rattle.stand.specs.declared.Cell.{Cell}
use Rattle.quote.specs.declared.fault.Fault.{Fault}
use Rattle.quote.specs.declared.fault.Fault.TheVariants.{MissingNumber}
use Rattle.quote.specs.Number.{amount_of, coordinate_of}
use Rattle.quote.specs.Words.{next_word}

-- what is read, with the rest of the line; or the fault, which ends the call
abbrev pub Read : Type 0 → Type 0
Read A = Result (A × List ℕ) Fault

-- a reader of the line's front
abbrev pub Reader : Type 0 → Type 0
Reader A = List ℕ → Read A

abbrev pub left : {A : Type 0} → Result A Fault → List ℕ → Read A
left (Ok x) rest = Ok (x, rest)
left (Err f) rest = Err f

-- the same of a word that is lent
abbrev pub lent_left : Result (Bor (List ℕ)) Fault → List ℕ → Read (List ℕ)
lent_left (Ok x) rest = Ok (x.now, rest)
lent_left (Err f) rest = Err f

abbrev pub go_on : {A B : Type 0} → Read A → (A → Reader B) → Read B
go_on (Ok (x, rest)) f = f x rest
go_on (Err e) f = Err e

infixl 10 ◌>>=◌
abbrev pub ◌>>=◌ : {A B : Type 0} → Reader A → (A → Reader B) → Reader B
(r >>= f) line = go_on (r line) f

unfoldable pub word : Reader (List ℕ)
word line = ok_or (next_word line) MissingNumber

unfoldable pub amount : ℕ → Reader ℕ
amount limit = do
  w ← word
  left (amount_of w limit)

abbrev pub finish : Reader ℕ
finish = amount 65535

abbrev pub cents : Reader ℕ
cents = amount 4294967295

unfoldable pub coordinate : Reader ℤ
coordinate = do
  w ← word
  left (coordinate_of w)

unfoldable pub cell : Reader Cell
cell = do
  x ← coordinate
  y ← coordinate
  z ← coordinate
  left (Ok (record { x = x; y = y; z = z }))
