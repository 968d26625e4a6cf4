use Rattle.std.proofs.Common.{◌≡◌, ◌-◌}
use Rattle.stand.proofs.Walking.{UnderWay}
use Rattle.stand.proofs.volume.reader.collect.Given as goal

abbrev pub invariant-loop-given : goal.invariant-loop-given
invariant-loop-given l =
    record {
      same_log : l.reader.log.now ≡ l.changes.log.now;
      same_last : l.reader.last.now ≡ l.changes.last.now;
      under_way : UnderWay l.volume l.changes.log.now l.changes.last.now l.mark l.initial.out l.reader.next l.at l.out;
    }

-- fewer generations are left
abbrev pub decreases-loop-given : goal.decreases-loop-given
decreases-loop-given l = l.volume.generation - l.reader.next
