-- Calls of kinds 1 to 3 as one: for the code.
use Rattle.std.specs.Prelude.{ℕ, Bool, true, false, ◌||◌}
use Rattle.stand.specs.Edit.{set_call}
use Rattle.stand.specs.Fill.{fill_call}
use Rattle.stand.specs.Opening.{Opening, open_call}
use Rattle.stand.specs.Refusal.{Answer, gives, refused}
use Rattle.stand.specs.Storage.{Outcome, Storage, joined, outcome_of}
use Rattle.stand.specs.declared.volume.Volume.{Volume}
use Rattle.interpreter.specs.Room.{chunks_of, wanted_of}
use Rattle.interpreter.specs.Run.{Edited, Turn, fill_step, machine_of, open_step, set_step, turn_of}
use Rattle.interpreter.specs.declared.Machine.{Machine}
use Rattle.interpreter.specs.declared.Reply.TheVariants as P
use Rattle.interpreter.specs.declared.edit.Edit.{Edit}
use Rattle.interpreter.specs.declared.edit.Edit.TheVariants.{Open, Set, Fill}

-- the sections that it asks for
abbrev pub chunks_for : Edit → Volume → ℕ
chunks_for (Open o size) v = wanted_of o size
chunks_for (Set c f) v = chunks_of v
chunks_for (Fill a b f) v = chunks_of v

-- a refresh after it measures all
abbrev pub opens : Edit → Bool
opens (Open o size) = true
opens (Set c f) = false
opens (Fill a b f) = false

-- ---- what it comes to, by the header after it

-- refused, the header is v as it was
abbrev pub made : Volume → Answer Volume → Storage → Outcome Volume
made v (gives w) s = outcome_of (gives w) (joined w s)
made v (refused n) s = outcome_of (refused n) (joined v s)

abbrev pub header_for : Answer ℕ → Volume → Answer Volume
header_for (gives n) v = gives v
header_for (refused n) v = refused n

abbrev pub headed : Outcome ℕ → Outcome Volume
headed o = outcome_of (header_for o.answer o.state.volume) o.state

abbrev pub opened_from : Volume → Opening → Outcome Volume
opened_from v o = made v o.answer o.storage

abbrev pub edit_call : Edit → Volume → Storage → Outcome Volume
edit_call (Open o size) v s = opened_from v (open_call s o size)
edit_call (Set c f) v s = headed (set_call (joined v s) c f)
edit_call (Fill a b f) v s = headed (fill_call (joined v s) a b f)

abbrev pub edited_turn : Edit → Machine → Answer Volume → Turn
edited_turn e m (gives v) = turn_of (machine_of v m.marks (opens e || m.stale) m.cut) P.Quiet
edited_turn e m (refused n) = turn_of m (P.Refused n)

abbrev pub edit_step : Edit → Machine → Storage → ℕ → Edited
edit_step (Open o size) m s sheet = open_step m s sheet o size
edit_step (Set c f) m s sheet = set_step m s sheet c f
edit_step (Fill a b f) m s sheet = fill_step m s sheet a b f
