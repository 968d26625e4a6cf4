use Rattle.std.proofs.Common.{◌≡◌, arith}
use Rattle.mesh.specs.Panels.{side_panels}
use Rattle.mesh.specs.Part.{depth_of}
use Rattle.mesh.specs.Scene.{look_in, open_in, shape_in}
use Rattle.mesh.specs.Tiles.{part_of}
use Rattle.mesh.proofs.Listed.{listed-none}
use Rattle.mesh.proofs.Made.{depth_made}
use Rattle.mesh.proofs.Meshing.{side-room, side_more}
use Rattle.mesh.proofs.sides.mesh_side.Goals as goal

pub loop-slice-init : goal.loop-slice-init
unfolding side_panels
loop-slice-init c = listed-none

pub mesh_slice-made-requires-clause-slice : goal.mesh_slice-made-requires-clause-slice
mesh_slice-made-requires-clause-slice c = omega (arith, depth_made c.args.p c.args.side c.on_axis-slice-end.ensures, c.loop-slice-test.true)

pub mesh_slice-made-requires-clause-few : goal.mesh_slice-made-requires-clause-few
mesh_slice-made-requires-clause-few c =
    let a = c.args in
    side-room a.p a.side.known c.loop-slice.slice (omega (arith, depth_made a.p a.side c.on_axis-slice-end.ensures, c.loop-slice-test.true)) c.requires.few c.loop-slice.invariant.total

pub loop-slice-preserved : goal.loop-slice-preserved
loop-slice-preserved c =
    let p = c.args.p in
    side_more (open_in p.scene) (shape_in p.scene) (look_in p.scene) (part_of p) c.args.side.number _ c.loop-slice.invariant c.mesh_slice-made.ensures

pub returns : goal.returns
returns c =
    let l = c.loop-slice in
    let e : l.slice ≡ depth_of (part_of c.args.p) c.args.side.number = omega (arith, depth_made c.args.p c.args.side c.on_axis-slice-end.ensures) in
    rw e at l.invariant
