use Rattle.stand.proofs.Refusal.{exits}
use Rattle.form.specs.Calls.{stored_length}
use Rattle.form.proofs.store.stored_length.Goals as goal

pub returns-in_err-stand : goal.returns-in_err-stand
unfolding stored_length
returns-in_err-stand c = exits _ c.from_residual.result _ c.from_residual.ensures.1 c.in_err-stand.ensures.code
