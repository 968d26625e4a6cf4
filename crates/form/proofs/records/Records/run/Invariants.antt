use Rattle.std.proofs.Common.{◌≡◌, ◌-◌}
use Rattle.form.specs.Inner.{run_from}
use Rattle.form.proofs.records.Records.run.Given as goal

abbrev pub invariant-loop-k : goal.invariant-loop-k
invariant-loop-k l =
    run_from l.self.form.now l.i l.k l.hash (l.self.count - l.k) ≡ run_from l.self.form.now l.i l.from 0 (l.self.count - l.from)
