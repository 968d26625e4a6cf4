use Rattle.std.proofs.Common.{arith}
use Rattle.stand.proofs.Parts.{solids}
use Rattle.stand.proofs.Fill.{fill_more, fill_next, fill_none, step_z}
use Rattle.stand.proofs.volume.fill.fill_solid.Goals as goal

pub loop-i-init : goal.loop-i-init
loop-i-init c = fill_none (solids _ _ _) _ _ _

pub overflow_add-d : goal.overflow_add-d
overflow_add-d c = step_z c.requires c.loop-i-test.true

pub fill_plane-count-requires : goal.fill_plane-count-requires
fill_plane-count-requires c =
    fill_next (solids _ _ _) c.loop-i.invariant c.loop-i-test.true c.requires (omega arith) _ _ _ 1 (omega arith) (omega arith) (omega arith) (omega arith)

pub loop-i-preserved : goal.loop-i-preserved
loop-i-preserved c =
    let e = c.fill_plane-count.ensures in
    fill_more (solids _ _ _) c.loop-i.invariant e.put e.most e.kept
