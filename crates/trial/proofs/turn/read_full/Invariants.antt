-- What the loop of `trial::turn::read_full` keeps, and how it ends.
use Rattle.std.proofs.Common.{length, ◌-◌, ◌≤◌}
use Rattle.trial.proofs.turn.read_full.Given as goal

abbrev pub invariant-loop-done : goal.invariant-loop-done
invariant-loop-done g l = l.done ≤ length l.bytes

abbrev pub decreases-loop-done : goal.decreases-loop-done
decreases-loop-done g l = length l.initial.bytes - l.done
