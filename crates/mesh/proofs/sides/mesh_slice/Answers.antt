use Rattle.mesh.specs.Scene.{look_in, open_in, shape_in}
use Rattle.mesh.specs.Tiles.{part_of}
use Rattle.mesh.proofs.Listed.{slice-none}
use Rattle.mesh.proofs.Meshing.{scan_asks, slice-wrote}
use Rattle.mesh.proofs.sides.mesh_slice.Goals as goal

pub returns-then-fill_part-eq0 : goal.returns-then-fill_part-eq0
returns-then-fill_part-eq0 c =
    let a = c.args in
    let p = a.p in
    slice-none (open_in p.scene) (shape_in p.scene) (look_in p.scene) (part_of p) a.side.number a.slice c.requires.cleared.zero c.fill_part.ensures a.side.known c.if-fill_part-eq0.true

pub scan_mask-requires : goal.scan_mask-requires
scan_mask-requires c =
    let k = c.frame_in.ensures in
    scan_asks c.args.p c.args.side.number c.args.slice c.requires.cleared k.0 k.1 c.fill_part.ensures.mask.same c.requires.few

pub returns : goal.returns
returns c =
    let k = c.frame_in.ensures in
    slice-wrote c.args.p c.args.side.number c.args.slice c.requires.cleared k.0 k.1 c.fill_part.ensures c.scan_mask.ensures
