use Rattle.mesh.proofs.Stretches.{Listing}
use Rattle.mesh.proofs.stretch.list_seen.Given as goal

abbrev pub invariant-loop-u : goal.invariant-loop-u
invariant-loop-u l = Listing l.mask l.row l.from l.u l.to l.nearest l.seen
