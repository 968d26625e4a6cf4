use Rattle.stand.specs.Lent.{storage_in}
use Rattle.stand.proofs.Opening.{open_done, open_short}
use Rattle.stand.proofs.volume.Volume.new.Goals as goal

pub returns-in_err-check-clause-outcome : goal.returns-in_err-check-clause-outcome
returns-in_err-check-clause-outcome c =
    open_short c.args.origin c.args.size c.in_ok-volume.ensures (storage_in c.args.s.now) _ c.from_residual-in_err-check.result c.in_err-check.ensures.code c.from_residual-in_err-check.ensures.1

pub returns-clause-outcome : goal.returns-clause-outcome
returns-clause-outcome c = open_done c.args.origin c.args.size c.in_ok-volume.ensures (storage_in c.args.s.now) c.in_ok-check.ensures.code c.clear.ensures.zeroed
