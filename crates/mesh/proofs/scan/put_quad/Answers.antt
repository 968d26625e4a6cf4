use Rattle.std.proofs.Common.{◌∙◌, ◌<◌, ◌/◌, length, arith, length-set, w32}
use mir.ValLaws.{to_z_pos}
use Rattle.arith.proofs.Signed.{back}
use Rattle.mesh.proofs.Frame.{numbers, panel_part, put-room, put_full}
use Rattle.mesh.proofs.Tables.{lows}
use Rattle.mesh.proofs.scan.put_quad.Goals as goal

pub returns-then-out-k : goal.returns-then-out-k
returns-then-out-k c = put_full _ _ _ c.if-out-k.true

pub put_along-requires : goal.put_along-requires
put_along-requires c =
    let l = lows c.requires.lies.side c.requires.lies.axes in
    (omega (arith, panel_part c.args.out.now c.args.k (omega (arith, c.if-out-k.false))), l.normal, l.first, l.second)

pub put_along-requires-2 : goal.put_along-requires-2
put_along-requires-2 c =
    let l = lows c.requires.lies.side c.requires.lies.axes in
    let n = panel_part c.args.out.now c.args.k (omega (arith, c.if-out-k.false)) in
    (rw c.put_along.ensures (simp length-set (omega (arith, n))), l.normal, l.first, l.second)

pub returns : goal.returns
returns c =
    let a = c.args in
    let p = c.requires in
    let room : a.k < length a.out.now / 8 = omega (arith, c.if-out-k.false) in
    put-room _ _ _ room
    (rw (c.put_along-2.ensures, c.put_along.ensures)
    (numbers a.f a.r p.lies _ (panel_part a.out.now a.k room)
    (back _ c.from_level-a.type_inv ∙ c.from_level-a.ensures)
    (back _ c.from_level-b.type_inv ∙ c.from_level-b.ensures)
    (back _ c.from_level-c.type_inv ∙ c.from_level-c.ensures)
    (to_z_pos w32 a.f.side (omega (arith, p.lies.side)))
    (back _ c.from.type_inv ∙ c.from.ensures)
    (to_z_pos w32 a.r.run (omega (arith, p.wide, p.lies.width)))
    (to_z_pos w32 a.r.rows (omega (arith, p.high, p.lies.height)))))
