use Rattle.mesh.specs.Listed.{Listed}
use Rattle.mesh.specs.Panels.{panels_to}
use Rattle.mesh.specs.Scene.{look_in, open_in, shape_in}
use Rattle.mesh.specs.Tiles.{part_of}
use Rattle.mesh.proofs.sides.mesh_sides.Given as goal

abbrev pub invariant-loop-number : goal.invariant-loop-number
invariant-loop-number l =
    Listed (panels_to (open_in l.p.scene) (shape_in l.p.scene) (look_in l.p.scene) (part_of l.p) l.number) l.initial.mask l.mask l.initial.list l.list 0 l.made
