use Rattle.interpreter.proofs.program.Program.new.Goals as goal

pub returns-clause-lists : goal.returns-clause-lists
returns-clause-lists c = rw c.no_rates.ensures
