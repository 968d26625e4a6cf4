use Rattle.std.proofs.Common.{rules}
use Rattle.stand.specs.Shape.{Ranged}
use Rattle.form.proofs.put.Laws.{Sized, head_written}
use Rattle.form.proofs.put.put_head.Goals as goal

pub returns : goal.returns
returns c =
    let v = c.args.header.volume in
    let o : Ranged v.origin = search rules in
    let n : Sized v.size = search rules in
    rw (c.put_three-2.ensures, c.put_three.ensures, c.put.ensures)
    (head_written v c.args.out.now c.args.header.formed o n c.cast_unsigned.ensures c.cast_unsigned-2.ensures c.cast_unsigned-3.ensures c.cast_unsigned-4.ensures c.cast_unsigned-5.ensures c.cast_unsigned-6.ensures)
