use Rattle.std.proofs.Common.{◌*◌}
use Rattle.form.specs.Entries.{entries_from}
use Rattle.form.specs.Inner.{Written, kept_in}
use Rattle.form.proofs.store.put_section.Given as goal

abbrev pub invariant-loop-within : goal.invariant-loop-within
invariant-loop-within l = Written l.initial.out l.out l.from (entries_from (kept_in l.here.low l.here.size l.stand.cells.now) (l.section * 4096) l.within) l.at
