use Rattle.std.proofs.Common.{sym, subst, arith}
use Rattle.mesh.specs.Frame.{Lies}
use Rattle.mesh.proofs.Meshing.{frame_made, normal-fits, slice-lies}
use Rattle.mesh.proofs.sides.frame_in.Goals as goal

pub overflow_add-result : goal.overflow_add-result
overflow_add-result c = omega (arith, normal-fits c.args.p c.args.side c.requires c.on_axis.ensures)

pub returns : goal.returns
returns c =
    let e = frame_made c.args.p c.args.side c.requires c.on_axis.ensures c.on_axis-2.ensures c.on_axis-3.ensures c.on_axis-4.ensures c.on_axis-5.ensures in
    (e, subst Lies (sym e) (slice-lies c.args.p c.args.side c.requires))
