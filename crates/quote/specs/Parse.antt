-- A line as a call. Its words are read in order, and the first fault is given.
use Rattle.std.specs.Prelude.{List, ℕ, Option, Some, None, Result, Ok, Err}
use Rattle.interpreter.specs.declared.Call.{Call}
use Rattle.interpreter.specs.declared.Call.TheVariants as call
use Rattle.stand.specs.Extents.{extent_from}
use Rattle.quote.specs.declared.fault.Fault.{Fault}
use Rattle.quote.specs.declared.fault.Fault.TheVariants.{ExtraWord}
use Rattle.quote.specs.declared.verb.Verb.{Verb}
use Rattle.quote.specs.declared.verb.Verb.TheVariants as verb
use Rattle.quote.specs.Fields.{Read, Reader, left, ◌>>=◌, finish, cents, cell}
use Rattle.quote.specs.Verb.{verb_of}
use Rattle.quote.specs.Words.{next_word}

abbrev pub open_of : Reader Call
open_of = do
  origin ← cell
  size ← cell
  left (Ok (call.Open origin (extent_from size)))

abbrev pub set_of : Reader Call
set_of = do
  c ← cell
  f ← finish
  left (Ok (call.Set c f))

abbrev pub fill_of : Reader Call
fill_of = do
  a ← cell
  b ← cell
  f ← finish
  left (Ok (call.Fill a b f))

abbrev pub rate_of : Reader Call
rate_of = do
  f ← finish
  n ← cents
  left (Ok (call.Rate f n))

abbrev pub cut_of : Reader Call
cut_of = do
  n ← cents
  left (Ok (call.Cut n))

-- the fields of a call, by its verb
abbrev pub call_of : Verb → Reader Call
call_of verb.Open = open_of
call_of verb.Set = set_of
call_of verb.Fill = fill_of
call_of verb.Refresh = left (Ok call.Refresh)
call_of verb.Rate = rate_of
call_of verb.Cut = cut_of

-- a call after whose fields no word is left
abbrev pub closed : Call → Option (List ℕ × List ℕ) → Result (Option Call) Fault
closed c None = Ok (Some c)
closed c (Some w) = Err ExtraWord

abbrev pub whole : Read Call → Result (Option Call) Fault
whole (Ok (c, rest)) = closed c (next_word rest)
whole (Err f) = Err f

abbrev pub named : Result Verb Fault → List ℕ → Result (Option Call) Fault
named (Ok v) rest = whole (call_of v rest)
named (Err f) rest = Err f

abbrev pub from_word : Option (List ℕ × List ℕ) → Result (Option Call) Fault
from_word None = Ok None
from_word (Some (name, rest)) = named (verb_of name) rest

-- an empty line, or a comment alone, is no call
unfoldable pub parse_of : List ℕ → Result (Option Call) Fault
parse_of line = from_word (next_word line)
