use Rattle.mesh.specs.Plane.{Filled, plane_shown}
use Rattle.mesh.proofs.plane.fill_plane.Given as goal

abbrev pub invariant-loop-v : goal.invariant-loop-v
invariant-loop-v l = Filled l.initial.mask l.mask l.any l.to l.pitch l.g.w l.v (plane_shown l.here l.next l.g)
