use Rattle.std.proofs.Common.{rules}
use Rattle.stand.proofs.Walking.{step_count, step_list, step_on}
use Rattle.stand.proofs.volume.reader.collect.Goals as goal

pub returns-in_default-clause-count : goal.returns-in_default-clause-count
returns-in_default-clause-count c =
    step_count _ _ _ c.loop-given.invariant.under_way _ c.step-stepped.ensures.step (search rules) (search rules) (search rules)

pub returns-in_default-clause-list : goal.returns-in_default-clause-list
returns-in_default-clause-list c =
    step_list _ _ _ c.loop-given.invariant.under_way _ c.step-stepped.ensures.step (search rules) (search rules) (search rules)

pub loop-given-preserved : goal.loop-given-preserved
loop-given-preserved c =
    record {
      same_log = search rules;
      same_last = search rules;
      under_way = step_on _ _ _ c.loop-given.invariant.under_way _ c.step-stepped.ensures.step (search rules) (search rules) c.in-Some.given (search rules) _ (search rules) _ (search rules);
    }
