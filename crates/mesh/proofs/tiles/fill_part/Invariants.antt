use Rattle.mesh.proofs.Tiling.{PartTo}
use Rattle.mesh.proofs.tiles.fill_part.Given as goal

abbrev pub invariant-loop-b : goal.invariant-loop-b
invariant-loop-b l = PartTo l.p l.side.number l.slice l.b l.initial.mask l.mask l.any
