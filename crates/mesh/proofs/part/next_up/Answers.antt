use Rattle.std.proofs.Common.{arith}
use Rattle.mesh.proofs.Step.{chunks-is, cut-normal, depth_is, few, hop_is, level_lt, low-is, place_is, plane_few, up_hop, up_in, up_leaves, up_shut}
use Rattle.mesh.proofs.Tables.{even_up, normal_read}
use Rattle.mesh.proofs.part.next_up.Goals as goal

pub overflow_add-slice : goal.overflow_add-slice
overflow_add-slice c = let a = c.args in omega (arith, (cut-normal a.c a.side.number a.slice a.side.known c.requires.0).most)

pub returns-then-slice-on_axis : goal.returns-then-slice-on_axis
returns-then-slice-on_axis c =
    let a = c.args in
    up_in a.c a.side.number a.slice a.side.known c.requires.0 (even_up a.side c.requires.1) (omega (arith, depth_is a.c a.side.number a.slice a.side.known c.requires.0 (normal_read a.side) c.on_axis.ensures, c.if-slice-on_axis.true))

pub overflow_add-on_axis : goal.overflow_add-on_axis
overflow_add-on_axis c = let a = c.args in omega (arith, level_lt a.c a.side.number a.slice a.side.known c.requires.0, place_is a.c a.side.number a.slice a.side.known c.requires.0 (normal_read a.side) c.on_axis-2.ensures)

pub hop_on-requires : goal.hop_on-requires
hop_on-requires c = let a = c.args in plane_few a.c a.side.number a.slice a.side.known c.requires.0

pub returns-then-on_axis : goal.returns-then-on_axis
returns-then-on_axis c =
    let a = c.args in
    let n = normal_read a.side in
    up_hop a.c a.side.number a.slice a.side.known c.requires.0 (even_up a.side c.requires.1)
    (omega (arith, depth_is a.c a.side.number a.slice a.side.known c.requires.0 n c.on_axis.ensures, c.if-slice-on_axis.false))
    (hop_is a.c a.side.number a.slice a.side.known c.requires.0 n c.hop_on.ensures)
    (omega (arith, place_is a.c a.side.number a.slice a.side.known c.requires.0 n c.on_axis-2.ensures, chunks-is a.c a.side.number a.slice a.side.known c.requires.0 n c.on_axis-3.ensures, c.if-on_axis.true))

pub overflow_add-result-then-on_axis : goal.overflow_add-result-then-on_axis
overflow_add-result-then-on_axis c =
    let a = c.args in
    let n = normal_read a.side in
    let h = up_hop a.c a.side.number a.slice a.side.known c.requires.0 (even_up a.side c.requires.1)
    (omega (arith, depth_is a.c a.side.number a.slice a.side.known c.requires.0 n c.on_axis.ensures, c.if-slice-on_axis.false))
    (hop_is a.c a.side.number a.slice a.side.known c.requires.0 n c.hop_on.ensures)
    (omega (arith, place_is a.c a.side.number a.slice a.side.known c.requires.0 n c.on_axis-2.ensures, chunks-is a.c a.side.number a.slice a.side.known c.requires.0 n c.on_axis-3.ensures, c.if-on_axis.true)) in
    omega (arith, h.0, few a.c a.side.number a.slice a.side.known c.requires.0)

pub overflow_add-on_axis-2 : goal.overflow_add-on_axis-2
overflow_add-on_axis-2 c = let a = c.args in omega (arith, level_lt a.c a.side.number a.slice a.side.known c.requires.0, low-is a.c a.side.number a.slice a.side.known c.requires.0 (normal_read a.side) c.on_axis-4.ensures)

pub returns-then-on_axis-slice : goal.returns-then-on_axis-slice
returns-then-on_axis-slice c =
    let a = c.args in
    let n = normal_read a.side in
    up_shut a.c a.side.number a.slice a.side.known c.requires.0 (even_up a.side c.requires.1)
    (omega (arith, depth_is a.c a.side.number a.slice a.side.known c.requires.0 n c.on_axis.ensures, c.if-slice-on_axis.false))
    (omega (arith, low-is a.c a.side.number a.slice a.side.known c.requires.0 n c.on_axis-4.ensures, c.if-on_axis-slice.true))

pub returns : goal.returns
returns c =
    let a = c.args in
    let n = normal_read a.side in
    up_leaves a.c a.side.number a.slice a.side.known c.requires.0 (even_up a.side c.requires.1)
    (omega (arith, depth_is a.c a.side.number a.slice a.side.known c.requires.0 n c.on_axis.ensures, c.if-slice-on_axis.false))
    (omega (arith, place_is a.c a.side.number a.slice a.side.known c.requires.0 n c.on_axis-2.ensures, chunks-is a.c a.side.number a.slice a.side.known c.requires.0 n c.on_axis-3.ensures, c.if-on_axis.false))
    (λ e. c.if-on_axis-slice.false (omega (arith, low-is a.c a.side.number a.slice a.side.known c.requires.0 n c.on_axis-4.ensures)))
    c.outside.ensures
