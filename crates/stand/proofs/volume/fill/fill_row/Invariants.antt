use Rattle.stand.specs.Fill.{row_cells}
use Rattle.stand.specs.Shape.{Shape}
use Rattle.stand.proofs.Fill.{Filled}
use Rattle.stand.proofs.volume.fill.fill_row.Given as goal

abbrev pub invariant-loop-i : goal.invariant-loop-i
invariant-loop-i l =
    Filled (λ (g : Shape). row_cells g l.p) 1 l.initial.v l.initial.s l.finish l.v l.s l.count l.i
