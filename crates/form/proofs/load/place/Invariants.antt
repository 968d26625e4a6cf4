use Rattle.form.proofs.load.Laws.{Puts}
use Rattle.form.proofs.load.place.Given as goal

abbrev pub invariant-loop-k : goal.invariant-loop-k
invariant-loop-k l = Puts l.records.form.now l.records.count l.initial.cells l.initial.hashes l.k l.cells l.hashes
