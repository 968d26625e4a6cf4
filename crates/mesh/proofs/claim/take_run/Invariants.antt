use Rattle.mesh.proofs.Claims.{Taking}
use Rattle.mesh.proofs.claim.take_run.Given as goal

abbrev pub invariant-loop-n : goal.invariant-loop-n
invariant-loop-n l = Taking l.initial.mask l.mask l.at l.most l.x l.n
