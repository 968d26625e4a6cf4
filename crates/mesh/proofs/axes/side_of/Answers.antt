use Rattle.std.proofs.Common.{◌∙◌, ap, sym, pos}
use lib.Signed.{lt_z}
use Rattle.arith.proofs.Signed.{back}
use Rattle.stand.specs.Sides.{axes_at, side_number, way_at}
use Rattle.stand.proofs.Sides.{side-lt}
use Rattle.mesh.specs.Axes.{along}
use Rattle.mesh.proofs.Tables.{given, way_read}
use Rattle.mesh.proofs.axes.side_of.Goals as goal

pub invariant_of-result : goal.invariant_of-result
unfolding axes_at
invariant_of-result c =
    let n = c.number.ensures in
    let x = c.axes-axes.ensures in
    let t = c.step-step.ensures in
    record {
      known = n.1;
      read = x ∙ ap axes_at (sym n.0);
      way =
          ap (lt_z (pos 0))
          (back _ c.along.type_inv ∙ c.along.ensures
          ∙ (λ i. along (x i).normal (given (t i).x) (given (t i).y) (given (t i).z))
          ∙ way_read (side_number c.args.face) (side-lt c.args.face)
          ∙ ap way_at (sym n.0));
    }
