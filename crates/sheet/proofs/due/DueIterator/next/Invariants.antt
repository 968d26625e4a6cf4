use Rattle.std.proofs.Common.{◌≡◌, ◌-◌}
use Rattle.sheet.proofs.Picking.{Coming}
use Rattle.sheet.proofs.due.DueIterator.next.Given as goal

abbrev pub invariant-loop-self : goal.invariant-loop-self
invariant-loop-self l =
    record {
      coming : Coming l.initial.self.since l.initial.self.at l.initial.self.step l.self.since l.self.at l.self.step;
      upto : l.upto ≡ l.self.since.header.volume.generation;
    }

abbrev pub decreases-loop-self : goal.decreases-loop-self
decreases-loop-self l = l.upto - l.self.at
