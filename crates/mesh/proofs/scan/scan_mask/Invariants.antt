use Rattle.mesh.specs.Frame.{Wrote}
use Rattle.mesh.specs.Scan.{fresh, rows_to}
use Rattle.mesh.proofs.scan.scan_mask.Given as goal

abbrev pub invariant-loop-v : goal.invariant-loop-v
invariant-loop-v l = Wrote l.f (rows_to l.f.width l.f.height (fresh l.initial.mask) l.v) l.mask l.initial.out l.out l.initial.n l.n
