use Rattle.stand.proofs.Fill.{fill_done, part_fillable}
use Rattle.stand.proofs.volume.Volume.fill.Goals as goal

pub fill_solid-count-requires : goal.fill_solid-count-requires
fill_solid-count-requires c = part_fillable _ c.args.s.now _ _ c.in_ok-check.ensures.code c.box_of.ensures c.in-Some.is c.if-self-k.false

pub returns-clause-outcome : goal.returns-clause-outcome
returns-clause-outcome c =
    fill_done _ c.args.s.now _ _ c.in_ok-check.ensures.code c.box_of.ensures c.in-Some.is c.if-self-k.false _ c.fill_solid-count.ensures.put
