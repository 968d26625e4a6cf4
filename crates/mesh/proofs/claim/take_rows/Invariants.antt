use Rattle.mesh.proofs.Claims.{TakingRows}
use Rattle.mesh.proofs.claim.take_rows.Given as goal

abbrev pub invariant-loop-n : goal.invariant-loop-n
invariant-loop-n l = TakingRows l.initial.mask l.mask l.w l.at l.run l.most l.x l.n
