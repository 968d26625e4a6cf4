use Rattle.std.proofs.Common.{◌+◌, ◌-◌, ◌*◌}
use Rattle.mesh.proofs.Stretches.{RowScanned}
use Rattle.mesh.proofs.scan.scan_row.Given as goal

abbrev pub invariant-loop-u : goal.invariant-loop-u
invariant-loop-u l = RowScanned l.f l.initial.mask l.v l.row l.initial.out l.initial.n l.mask l.out l.seen l.n l.from l.to l.u

-- another stretch counts as half a slot
abbrev pub decreases-loop-u : goal.decreases-loop-u
decreases-loop-u l = 2 * (l.f.width - l.u) + (1 - (l.to - l.u))
