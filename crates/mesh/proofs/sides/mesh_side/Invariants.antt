use Rattle.mesh.specs.Listed.{Listed}
use Rattle.mesh.specs.Panels.{side_panels}
use Rattle.mesh.specs.Scene.{look_in, open_in, shape_in}
use Rattle.mesh.specs.Tiles.{part_of}
use Rattle.mesh.proofs.sides.mesh_side.Given as goal

abbrev pub invariant-loop-slice : goal.invariant-loop-slice
invariant-loop-slice l =
    Listed (side_panels (open_in l.p.scene) (shape_in l.p.scene) (look_in l.p.scene) (part_of l.p) l.side.number l.slice) l.initial.mask l.mask l.initial.list l.list l.count l.made
