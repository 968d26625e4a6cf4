use Rattle.std.proofs.Common.{arith}
use Rattle.mesh.proofs.Shown.{filled_next, filled_open, filled_shut, mask_in, near, plane_in, slice-lt, start-lt, steps_are}
use Rattle.mesh.proofs.part.fill_slice.Goals as goal
use Rattle.mesh.proofs.part.fill_slice.Goals.{in-At, in-Open}

pub returns-in-Shut : goal.returns-in-Shut
returns-in-Shut c = filled_shut c.args.side.known c.requires c.in-Shut.ensures

pub overflow_mul-slice-2 : goal.overflow_mul-slice-2
overflow_mul-slice-2 c =
    let s = c.args.side in
    let e = steps_are c.args.c s c.grid_of-g.ensures in
    omega (arith, start-lt s.known c.requires e (slice-lt s.known c.requires e))

pub fill_plane-requires-clause-mask_in : goal.fill_plane-requires-clause-mask_in
fill_plane-requires-clause-mask_in c = mask_in c.args.side.known c.requires (steps_are c.args.c c.args.side c.grid_of-g.ensures)

pub fill_plane-requires-clause-near : goal.fill_plane-requires-clause-near
fill_plane-requires-clause-near c = near c.args.side.known c.requires (steps_are c.args.c c.args.side c.grid_of-g.ensures)

pub fill_plane-requires-clause-here_in : goal.fill_plane-requires-clause-here_in
fill_plane-requires-clause-here_in c =
    let s = c.args.side in
    let e = steps_are c.args.c s c.grid_of-g.ensures in
    let h = c.line_of-here.ensures in
    plane_in s.known c.requires e c.args.c.lies.chunk (slice-lt s.known c.requires e) (record { cells_are = h.0; at_is = h.1 })

pub fill_plane-requires-clause-next_in : goal.fill_plane-requires-clause-next_in
fill_plane-requires-clause-next_in c =
    let s = c.args.side in
    let e = steps_are c.args.c s c.grid_of-g.ensures in
    elim c.match-next_of.branch [
      | in-At w ↦ rw w.next-is (plane_in s.known c.requires e w.in-At.ensures.0 w.in-At.ensures.1 (record { cells_are = w.line_of.ensures.0; at_is = w.line_of.ensures.1 }))
      | in-Open w ↦ rw w.next-is tt
    ]

pub returns : goal.returns
returns c =
    let s = c.args.side in
    let e = steps_are c.args.c s c.grid_of-g.ensures in
    let h = c.line_of-here.ensures in
    elim c.match-next_of.branch [
      | in-At w ↦ filled_next s.known c.requires e {here = c.line_of-here.result} {next = w.line_of.result} (record { cells_are = h.0; at_is = h.1 }) w.in-At.ensures (record { cells_are = w.line_of.ensures.0; at_is = w.line_of.ensures.1 }) (rw w.next-is at c.fill_plane.ensures)
      | in-Open w ↦ filled_open s.known c.requires e {here = c.line_of-here.result} (record { cells_are = h.0; at_is = h.1 }) w.in-Open.ensures (rw w.next-is at c.fill_plane.ensures)
    ]
