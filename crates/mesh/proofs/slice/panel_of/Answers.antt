use Rattle.std.proofs.Common.{◌∙◌, ap, arith}
use Rattle.mesh.specs.Slice.{held_extent, quad_in, shifted}
use Rattle.mesh.proofs.Slicing.{facing-below}
use Rattle.mesh.proofs.Tables.{facing_by}
use Rattle.mesh.proofs.slice.panel_of.Goals as goal

pub shift-requires : goal.shift-requires
shift-requires c =
    rw (c.to_axes.ensures, facing_by c.args.s.face c.axes-normal.ensures 0 c.args.r.u c.args.r.v) (facing-below _ _ _ _ (omega arith) c.requires.first c.requires.second)

pub hold-requires : goal.hold-requires
hold-requires c =
    rw (c.to_axes-2.ensures, facing_by c.args.s.face c.axes-normal.ensures 1 c.args.r.run c.args.r.rows) (facing-below _ _ _ _ (omega arith) c.requires.wide c.requires.high)

pub returns : goal.returns
unfolding quad_in
returns c =
    let s = c.args.s in
    let r = c.args.r in
    λ i. record {
      cell = (c.shift.ensures ∙ ap (shifted s.cell) (c.to_axes.ensures ∙ facing_by s.face c.axes-normal.ensures 0 r.u r.v)) i;
      face = s.face;
      voxel = record { 0 = r.value };
      extent = (c.hold.ensures ∙ ap held_extent (c.to_axes-2.ensures ∙ facing_by s.face c.axes-normal.ensures 1 r.run r.rows)) i;
    }
