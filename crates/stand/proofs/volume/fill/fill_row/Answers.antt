use Rattle.std.proofs.Common.{sym, refl, ◌∙◌, arith}
use Rattle.stand.proofs.Parts.{rows}
use Rattle.stand.proofs.Fill.{each-one, fill_more, fill_next, fill_none, step_x}
use Rattle.stand.proofs.volume.fill.fill_row.Goals as goal

pub loop-i-init : goal.loop-i-init
loop-i-init c = fill_none (rows _) _ _ _

pub put_spot-count-requires : goal.put_spot-count-requires
put_spot-count-requires c =
    fill_next (rows _) c.loop-i.invariant c.loop-i-test.true c.requires (omega arith) _ 1 1 1 refl (omega arith) (omega arith) (omega arith)

pub loop-i-preserved : goal.loop-i-preserved
loop-i-preserved c =
    fill_more (rows _) c.loop-i.invariant (c.put_spot-count.ensures.put ∙ sym (each-one _ _ _)) c.put_spot-count.ensures.one c.put_spot-count.ensures.kept

pub overflow_add-d : goal.overflow_add-d
overflow_add-d c = step_x c.requires c.loop-i-test.true
