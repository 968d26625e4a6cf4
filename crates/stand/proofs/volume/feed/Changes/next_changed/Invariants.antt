use Rattle.std.proofs.Common.{◌≡◌, ◌-◌, length}
use Rattle.stand.specs.Feed.{next_from}
use Rattle.stand.proofs.volume.feed.Changes.next_changed.Given as goal

abbrev pub invariant-loop-g : goal.invariant-loop-g
invariant-loop-g l =
    next_from (length l.self.log.now) l.self.log.now l.self.last.now l.next (l.generation - l.next)
    ≡ next_from (length l.self.log.now) l.self.log.now l.self.last.now l.g (l.generation - l.g)
