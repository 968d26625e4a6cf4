use Rattle.std.proofs.Common.{◌*◌}
use Rattle.stand.specs.Fill.{solid_cells}
use Rattle.stand.specs.Shape.{Shape}
use Rattle.stand.proofs.Fill.{Filled}
use Rattle.stand.proofs.volume.fill.fill_solid.Given as goal

abbrev pub invariant-loop-i : goal.invariant-loop-i
invariant-loop-i l =
    Filled (λ (g : Shape). solid_cells g l.k.low l.k.count.x l.k.count.y) (l.k.count.x * l.k.count.y) l.initial.v l.initial.s l.finish l.v l.s l.count l.i
