-- A whole script, from its bytes to the lines that it prints: document 01, 'Trial program'.
use Rattle.std.specs.Prelude.{ℕ, zero, suc, Bool, true, false, cond, List, [], ◌∷◌, ◌++◌, drop, length, replicate, Option, Some, None}
use Rattle.interpreter.specs.Decode.{decode_of, length_of}
use Rattle.interpreter.specs.Line.{line_of}
use Rattle.interpreter.specs.Room.{Lists, lists_of}
use Rattle.interpreter.specs.Run.{After, after_of, run_step, turn_of}
use Rattle.interpreter.specs.Start.{start_machine, unset}
use Rattle.interpreter.specs.declared.Call.{Call}
use Rattle.interpreter.specs.declared.Machine.{Machine}
use Rattle.interpreter.specs.declared.Reply.{Reply}
use Rattle.interpreter.specs.declared.Reply.TheVariants as R

-- ---- one step

-- a call that is whole is made; else nothing changes
unfoldable pub decoded_step : Machine → Lists → Option Call → After
decoded_step m l (Some call) = run_step m l call
decoded_step m l None = after_of (turn_of m R.Broken) l

unfoldable pub step_of : Machine → Lists → List ℕ → After
step_of m l b = decoded_step m l (decode_of b)

-- ---- all of them: the program is a loop of `step` and `write_line`

-- where a script stops: after a call that is broken
abbrev pub is_broken : Reply → Bool
is_broken R.Quiet = false
is_broken (R.Price generation row) = false
is_broken (R.Refused number) = false
is_broken R.Broken = true

-- what is printed after a reply
abbrev pub unless_broken : Reply → List ℕ → List ℕ
unless_broken r later = cond (is_broken r) [] later

-- the line of a step, and what the steps after it print
abbrev pub followed : After → (Machine → Lists → List ℕ) → List ℕ
followed a later = line_of a.turn.reply ++ unless_broken a.turn.reply (later a.turn.machine a.lists)

-- n steps at most
unfoldable pub printed_to : ℕ → Machine → Lists → List ℕ → List ℕ
printed_to zero m l b = []
printed_to (suc n) m l [] = []
printed_to (suc n) m l (kind ∷ b) =
    followed (step_of m l (kind ∷ b)) (λ m l. printed_to n m l (drop (length_of kind) (kind ∷ b)))

-- storage for 4 sections, rates for finishes below 64, a mask for a section's side, and a sheet of 4 rows
abbrev pub start_lists : Lists
start_lists =
    lists_of (replicate 16384 0) (replicate 4 0) (replicate 4 0) (replicate 4 0) (replicate 4 0) (replicate 64 unset) (replicate 256 0) (replicate 12 0)

-- a call has at least one byte, so that there are no more steps than bytes
unfoldable pub printed : List ℕ → List ℕ
printed b = printed_to (length b) start_machine start_lists b
