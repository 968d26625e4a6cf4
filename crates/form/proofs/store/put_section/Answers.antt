use Rattle.std.proofs.Common.{◌*◌, arith, rules}
use Rattle.form.specs.Inner.{kept_in}
use Rattle.form.proofs.store.Slots.{kept_here, written_few, written_section, written_slot, written_start}
use Rattle.form.proofs.store.put_section.Goals as goal

pub loop-within-init : goal.loop-within-init
loop-within-init c = written_start _ _ _ _

pub put_one-at-requires : goal.put_one-at-requires
put_one-at-requires c =
    let h = c.at-here.result in
    (omega arith, omega (arith, written_few (kept_in h.low h.size c.args.stand.cells.now) (c.args.section * 4096) c.loop-within.within c.loop-within.invariant))

pub loop-within-preserved : goal.loop-within-preserved
loop-within-preserved c =
    let h = c.at-here.result in
    written_slot (kept_in h.low h.size c.args.stand.cells.now) (c.args.section * 4096) c.loop-within.within c.loop-within.invariant
    (search rules) (search rules) (kept_here h.low h.size c.args.stand.cells.now c.args.section c.loop-within.within c.loop-within-test.true (rw (c.from-base.ensures, c.from-in-loop-within.ensures) at c.kept-finish.ensures)) c.put_one-at.ensures

pub returns : goal.returns
returns c =
    let s = c.args.stand in
    written_section s.header.volume s.cells.now s.header.formed c.args.section _ (rw c.from.ensures at c.at-here.ensures.0) c.at-here.ensures.1 (omega arith) c.loop-within.invariant
