use Rattle.std.proofs.Common.{arith}
use Rattle.mesh.proofs.Step.{down_hop, down_in, down_leaves, down_shut, hop_is, hop_le, low-is, place_is, plane_few}
use Rattle.mesh.proofs.Tables.{normal_read, odd_down}
use Rattle.mesh.proofs.part.next_down.Goals as goal

pub returns-then-slice-gt0 : goal.returns-then-slice-gt0
returns-then-slice-gt0 c = let a = c.args in down_in a.c a.side.number a.slice a.side.known c.requires.0 (odd_down a.side c.requires.1) c.if-slice-gt0.true

pub hop_on-requires : goal.hop_on-requires
hop_on-requires c = let a = c.args in plane_few a.c a.side.number a.slice a.side.known c.requires.0

pub overflow_sub-result-then-on_axis-gt0 : goal.overflow_sub-result-then-on_axis-gt0
overflow_sub-result-then-on_axis-gt0 c =
    let a = c.args in
    let n = normal_read a.side in
    hop_le a.c a.side.number a.slice a.side.known c.requires.0 (odd_down a.side c.requires.1) (omega (arith, c.if-slice-gt0.false)) (omega (arith, place_is a.c a.side.number a.slice a.side.known c.requires.0 n c.on_axis.ensures, c.if-on_axis-gt0.true)) (hop_is a.c a.side.number a.slice a.side.known c.requires.0 n c.hop_on.ensures)

pub returns-then-on_axis-gt0 : goal.returns-then-on_axis-gt0
returns-then-on_axis-gt0 c =
    let a = c.args in
    let n = normal_read a.side in
    down_hop a.c a.side.number a.slice a.side.known c.requires.0 (odd_down a.side c.requires.1) (omega (arith, c.if-slice-gt0.false)) (omega (arith, place_is a.c a.side.number a.slice a.side.known c.requires.0 n c.on_axis.ensures, c.if-on_axis-gt0.true)) (hop_is a.c a.side.number a.slice a.side.known c.requires.0 n c.hop_on.ensures)

pub returns-then-on_axis-eq0 : goal.returns-then-on_axis-eq0
returns-then-on_axis-eq0 c =
    let a = c.args in
    let n = normal_read a.side in
    down_shut a.c a.side.number a.slice a.side.known c.requires.0 (odd_down a.side c.requires.1) (omega (arith, c.if-slice-gt0.false)) (omega (arith, place_is a.c a.side.number a.slice a.side.known c.requires.0 n c.on_axis.ensures, c.if-on_axis-gt0.false)) (omega (arith, low-is a.c a.side.number a.slice a.side.known c.requires.0 n c.on_axis-2.ensures, c.if-on_axis-eq0.true))

pub returns : goal.returns
returns c =
    let a = c.args in
    let n = normal_read a.side in
    down_leaves a.c a.side.number a.slice a.side.known c.requires.0 (odd_down a.side c.requires.1) (omega (arith, c.if-slice-gt0.false)) (omega (arith, place_is a.c a.side.number a.slice a.side.known c.requires.0 n c.on_axis.ensures, c.if-on_axis-gt0.false))
    (λ e. c.if-on_axis-eq0.false (omega (arith, low-is a.c a.side.number a.slice a.side.known c.requires.0 n c.on_axis-2.ensures)))
    c.outside.ensures
