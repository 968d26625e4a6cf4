use Rattle.std.proofs.Common.{arith}
use Rattle.form.specs.Inner.{slot_of}
use Rattle.form.proofs.store.Slots.{written_full, written_none, written_one}
use Rattle.form.proofs.store.put_one.Goals as goal

pub returns-then-r-eq0 : goal.returns-then-r-eq0
returns-then-r-eq0 c = written_none _ _ (slot_of c.args.r) _ c.if-r-eq0.true

pub returns-then-end-out : goal.returns-then-end-out
returns-then-end-out c = written_one _ _ (slot_of c.args.r) _ c.if-r-eq0.false c.put_record.ensures

pub returns-else-end-out : goal.returns-else-end-out
returns-else-end-out c = written_full _ _ (slot_of c.args.r) _ c.if-r-eq0.false (omega arith)
