use Rattle.std.proofs.Common.{◌<◌, ap, arith, sym}
use Rattle.sheet.specs.Since.{count_in}
use Rattle.sheet.proofs.Picking.{coming-end, coming-on, coming_over}
use Rattle.sheet.proofs.due.DueIterator.next.Goals as goal
use Rattle.sheet.proofs.due.DueIterator.next.Goals.{in-Some+in_default-pick, in_default}

pub loop-self-preserved : goal.loop-self-preserved
loop-self-preserved c =
    let l = c.loop-self in
    let h : l.self.at < l.self.since.header.volume.generation = omega (arith, c.loop-self-test.true, l.invariant.upto) in
    record {
      coming = elim c.match-given.branch [
        | in-Some+in_default-pick w ↦ coming-on l.invariant.coming h l.self.from _ (sym w.in-Some.ensures) w.in_default-pick.ensures l.self.steps
        | in_default w ↦ coming_over l.invariant.coming h l.self.from (sym w.in_default.ensures) l.self.steps
      ];
      upto = l.invariant.upto;
    }

pub returns-clause-steps : goal.returns-clause-steps
returns-clause-steps c =
    let l = c.loop-self in
    (coming-end l.invariant.coming (omega (arith, l.self.upto, l.invariant.upto, c.loop-self-test.false)), ap count_in l.invariant.coming.since)
