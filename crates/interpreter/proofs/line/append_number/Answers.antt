use native.Mathlib.Omega.{arith}
use Rattle.interpreter.proofs.Writing.{number_put}
use Rattle.interpreter.proofs.line.append_number.Goals as goal

pub returns-clause-appended : goal.returns-clause-appended
returns-clause-appended c =
    let d = c.decimal-k in
    number_put _ _ _ _ _ _ _ _ (omega arith) d.ensures.len d.ensures.digits c.append-end.ensures.appended (omega arith)
