use Rattle.form.proofs.load.Laws.{puts_more}
use Rattle.form.proofs.load.place.Goals as goal

pub loop-k-preserved : goal.loop-k-preserved
loop-k-preserved c = puts_more c.loop-k.invariant c.loop-k-test.true c.get-record.ensures c.slot-slot.ensures.0 c.toggle.ensures
