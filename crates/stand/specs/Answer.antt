-- Refusals of the code as document 01's numbers, and Results as answers: document 01, 'What form each place needs'.
use Rattle.std.specs.Prelude.{ℕ, Result, Ok, Err}
use Rattle.stand.specs.Refusal.{Answer, gives, refused}
use Rattle.stand.specs.declared.volume.refusal.Refusal.{Refusal}
use Rattle.stand.specs.declared.volume.refusal.Refusal.TheVariants as R

abbrev pub refusal_number : Refusal → ℕ
refusal_number R.TooManyChunks = 1
refusal_number R.LastCellPastI32 = 2
refusal_number R.NotOpened = 3
refusal_number R.WrongLength = 4
refusal_number R.CellOutside = 5
refusal_number R.GenerationsSpent = 6
refusal_number R.NoSuchChunk = 7
refusal_number R.MarkAhead = 8
refusal_number R.MarkTooOld = 9
refusal_number R.MaskTooShort = 10
refusal_number R.Unpriced = 12
refusal_number R.Implausible = 13
refusal_number R.BadForm = 14
refusal_number R.OutputTooShort = 15

-- a value, or the number under which the call is refused
abbrev pub answer_of : {A : Type 0} → Result A Refusal → Answer A
answer_of (Ok a) = gives a
answer_of (Err r) = refused (refusal_number r)

-- the number alone, 0 for none
abbrev pub code_of : {A : Type 0} → Result A Refusal → ℕ
code_of (Ok a) = 0
code_of (Err r) = refusal_number r
