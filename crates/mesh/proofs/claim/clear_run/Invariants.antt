use Rattle.std.proofs.Common.{◌≡◌}
use Rattle.mesh.specs.Scan.{clear_run}
use Rattle.mesh.proofs.claim.clear_run.Given as goal

abbrev pub invariant-loop-n : goal.invariant-loop-n
invariant-loop-n l = l.mask ≡ clear_run l.initial.mask l.at l.n
