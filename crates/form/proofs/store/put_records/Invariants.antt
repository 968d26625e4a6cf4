use Rattle.std.proofs.Common.{◌*◌}
use Rattle.stand.specs.Shape.{shape_of}
use Rattle.form.specs.Entries.{entries_from, kept_at}
use Rattle.form.specs.Form.{head_length}
use Rattle.form.specs.Inner.{Written}
use Rattle.form.proofs.store.put_records.Given as goal

abbrev pub invariant-loop-section : goal.invariant-loop-section
invariant-loop-section l = Written l.initial.out l.out head_length (entries_from (kept_at (shape_of l.stand.header.volume) l.stand.cells.now) 0 (l.section * 4096)) l.at
