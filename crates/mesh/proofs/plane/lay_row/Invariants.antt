use Rattle.std.proofs.Common.{◌≡◌, ◌*◌}
use Rattle.mesh.specs.Plane.{FilledRow, Shows}
use Rattle.mesh.proofs.plane.lay_row.Given as goal

abbrev pub invariant-loop-u : goal.invariant-loop-u
invariant-loop-u g l = (l.by ≡ l.u * l.step) × ((f : _) → Shows (goal.F-post g l.shows) l.w l.step f → FilledRow l.initial.mask l.mask l.any l.to l.u (λ u v. f u))
