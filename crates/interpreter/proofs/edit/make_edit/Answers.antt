use Rattle.interpreter.proofs.Edits.{edited_so}
use Rattle.interpreter.proofs.edit.make_edit.Goals as goal

pub returns-clause-outcome : goal.returns-clause-outcome
returns-clause-outcome c = edited_so _ _ _ _ _ _ _ _ _ _ c.chunks.ensures c.lent-n.ensures.lent c.make-made.ensures c.edited.ensures
