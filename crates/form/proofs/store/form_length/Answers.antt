use Rattle.std.proofs.Common.{arith}
use Rattle.form.proofs.store.Laws.{length_is, place_small}
use Rattle.form.proofs.store.form_length.Goals as goal

pub overflow_add-result : goal.overflow_add-result
overflow_add-result c =
    let s = c.args.stand in
    omega (arith, place_small s.header.volume s.cells.now c.put_records.ensures s.header.formed)

pub returns : goal.returns
returns c = length_is c.args.stand.header.volume c.args.stand.cells.now c.put_records.ensures
