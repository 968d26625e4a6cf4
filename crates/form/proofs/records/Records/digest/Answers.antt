use Rattle.std.proofs.Common.{arith}
use Rattle.form.proofs.digest.Laws.{streams_more, streams_none}
use Rattle.form.proofs.records.Records.digest.Goals as goal

pub loop-i-init : goal.loop-i-init
loop-i-init c = streams_none _ _ _ c.requires

pub loop-i-preserved : goal.loop-i-preserved
loop-i-preserved c = streams_more c.loop-i.invariant (omega arith) c.run-r.ensures.0 c.fold-acc.ensures
