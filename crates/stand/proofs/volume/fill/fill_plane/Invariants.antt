use Rattle.stand.specs.Fill.{plane_cells}
use Rattle.stand.specs.Shape.{Shape}
use Rattle.stand.proofs.Fill.{Filled}
use Rattle.stand.proofs.volume.fill.fill_plane.Given as goal

abbrev pub invariant-loop-i : goal.invariant-loop-i
invariant-loop-i l =
    Filled (λ (g : Shape). plane_cells g l.p l.n) l.n l.initial.v l.initial.s l.finish l.v l.s l.count l.i
