use Rattle.stand.specs.Shape.{shape_of}
use Rattle.form.proofs.digest.Laws.{Streams}
use Rattle.form.proofs.records.Records.digest.Given as goal

abbrev pub invariant-loop-i : goal.invariant-loop-i
invariant-loop-i l = Streams l.self.form.now l.self.count (shape_of l.fn.header.volume) l.initial.acc l.i l.k l.acc
