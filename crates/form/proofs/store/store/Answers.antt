use Rattle.form.proofs.store.Laws.{store_turned}
use Rattle.form.proofs.store.store.Goals as goal

pub returns-in_err-stand : goal.returns-in_err-stand
returns-in_err-stand c = store_turned c.args.v c.args.cells.now c.args.out.now _ c.from_residual.result c.in_err-stand.ensures.code c.from_residual.ensures.1
