use Rattle.form.proofs.load.Laws.{stored_bad, stored_head}
use Rattle.form.proofs.load.stored_header.Goals as goal

pub returns-in_err-header : goal.returns-in_err-header
returns-in_err-header c = stored_head c.args.form.now _ c.from_residual.result c.in_err-header.ensures.code c.from_residual.ensures.1

pub returns-in_err-records : goal.returns-in_err-records
returns-in_err-records c =
    stored_bad c.args.form.now c.in_ok-header.ensures.code c.in_ok-header.ensures.same _ c.from_residual-in_err-records.result c.in_err-records.ensures.code c.from_residual-in_err-records.ensures.1
