use Rattle.std.proofs.Common.{◌≡◌, arith}
use Rattle.mesh.specs.Panels.{panels_to, part_panels}
use Rattle.mesh.specs.Scene.{look_in, open_in, shape_in}
use Rattle.mesh.specs.Tiles.{part_of}
use Rattle.mesh.proofs.Listed.{listed-none}
use Rattle.mesh.proofs.Meshing.{side_cleared, sides_more, sides_room}
use Rattle.mesh.proofs.sides.mesh_sides.Goals as goal

pub loop-number-init : goal.loop-number-init
unfolding panels_to
loop-number-init c = listed-none

pub mesh_side-made-requires-clause-cleared : goal.mesh_side-made-requires-clause-cleared
mesh_side-made-requires-clause-cleared c = side_cleared c.args.p c.requires c.loop-number.invariant.mask c.side_at.result.known

pub mesh_side-made-requires-clause-few : goal.mesh_side-made-requires-clause-few
mesh_side-made-requires-clause-few c = sides_room c.args.p c.loop-number.number (omega (arith, c.loop-number-test.true)) c.loop-number.invariant.total

pub loop-number-preserved : goal.loop-number-preserved
loop-number-preserved c =
    let p = c.args.p in
    sides_more (open_in p.scene) (shape_in p.scene) (look_in p.scene) (part_of p) c.side_at.ensures c.loop-number.invariant c.mesh_side-made.ensures

pub returns : goal.returns
unfolding part_panels
returns c =
    let l = c.loop-number in
    let e : l.number ≡ 6 = omega arith in
    rw e at l.invariant
