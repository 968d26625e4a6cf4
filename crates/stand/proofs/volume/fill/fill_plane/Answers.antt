use Rattle.std.proofs.Common.{arith}
use Rattle.stand.proofs.Parts.{planes}
use Rattle.stand.proofs.Fill.{fill_more, fill_next, fill_none, step_y}
use Rattle.stand.proofs.volume.fill.fill_plane.Goals as goal

pub loop-i-init : goal.loop-i-init
loop-i-init c = fill_none (planes _ _) _ _ _

pub overflow_add-d : goal.overflow_add-d
overflow_add-d c = step_y c.requires c.loop-i-test.true

pub fill_row-count-requires : goal.fill_row-count-requires
fill_row-count-requires c =
    fill_next (planes _ _) c.loop-i.invariant c.loop-i-test.true c.requires (omega arith) _ _ 1 1 (omega arith) (omega arith) (omega arith) (omega arith)

pub loop-i-preserved : goal.loop-i-preserved
loop-i-preserved c =
    let e = c.fill_row-count.ensures in
    fill_more (planes _ _) c.loop-i.invariant e.put e.most e.kept
