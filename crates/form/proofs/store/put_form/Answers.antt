use Rattle.std.proofs.Common.{arith}
use Rattle.form.proofs.store.Laws.{form_long, form_written, front_kept, length_is, records_fit, records_ordered}
use Rattle.form.proofs.store.put_form.Goals as goal

pub put_head-requires : goal.put_head-requires
put_head-requires c = omega (arith, form_long c.args.stand.header.volume c.args.stand.cells.now)

pub invariant_of-records : goal.invariant_of-records
invariant_of-records c =
    record { whole = records_fit c.args.stand.header.volume c.args.stand.cells.now c.args.out.now c.requires.room c.put_head.ensures c.put_records-end.ensures }

pub digest-digest-requires : goal.digest-digest-requires
digest-digest-requires c =
    let s = c.args.stand in
    records_ordered s.header.volume s.cells.now c.args.out.now c.requires.room c.put_head.ensures c.put_records-end.ensures s.header.formed c.requires.finishes

pub put_tail-requires : goal.put_tail-requires
put_tail-requires c =
    let v = c.args.stand.header.volume in
    let cells = c.args.stand.cells.now in
    omega (arith, length_is v cells c.put_records-end.ensures, front_kept v cells c.args.out.now c.requires.room c.put_head.ensures c.put_records-end.ensures)

pub returns : goal.returns
returns c =
    let s = c.args.stand in
    form_written s.header.volume s.cells.now c.args.out.now c.requires.room c.put_head.ensures c.put_records-end.ensures s.header.formed c.requires.finishes c.digest-digest.ensures c.put_tail.ensures
