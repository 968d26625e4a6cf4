use Rattle.std.proofs.Common.{◌≡◌, ◌-◌}
use Rattle.stand.specs.Shape.{shape_of}
use Rattle.form.specs.Form.{good_from, head_length}
use Rattle.form.specs.Inner.{record_at}
use Rattle.form.proofs.records.Records.are_good.Given as goal

abbrev pub invariant-loop-k : goal.invariant-loop-k
invariant-loop-k l =
    good_from (shape_of l.header.volume) l.self.form.now (record_at l.k) l.next (l.self.count - l.k)
    ≡ good_from (shape_of l.header.volume) l.self.form.now head_length 0 l.self.count
