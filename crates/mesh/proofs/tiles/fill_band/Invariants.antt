use Rattle.mesh.proofs.Tiling.{BandTo}
use Rattle.mesh.proofs.tiles.fill_band.Given as goal

abbrev pub invariant-loop-a : goal.invariant-loop-a
invariant-loop-a l = BandTo l.p l.side.number l.slice l.b l.a l.initial.mask l.mask l.any
