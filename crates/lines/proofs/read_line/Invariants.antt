-- The first n entries are the bytes that were taken, and none ends a line.
use Rattle.std.proofs.Common.{take}
use Rattle.std.specs.Io.KnownBytes.{Consumes}
use Rattle.lines.specs.Line.{HasNoEnd}
use Rattle.lines.proofs.read_line.Given as goal

abbrev pub invariant-loop-n : goal.invariant-loop-n
invariant-loop-n g l = record {
  no_end : HasNoEnd (take l.n l.line);
  taken : Consumes (g.R.Read.remaining l.initial.input) (g.R.Read.remaining l.input) (take l.n l.line);
}
