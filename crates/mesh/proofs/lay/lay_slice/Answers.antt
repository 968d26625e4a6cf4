use Rattle.std.proofs.Common.{◌∙◌, ap, refl, ℕ, ◌<◌, arith}
use Rattle.stand.specs.Sides.{side_number}
use Rattle.mesh.specs.Part.{depth_of, facing}
use Rattle.mesh.specs.Scene.{look_in, open_in, shape_in}
use Rattle.mesh.specs.Tiles.{part_of}
use Rattle.mesh.proofs.Laying.{lays, lays_none}
use Rattle.mesh.proofs.Lying.{depth_some, facing-none, low_below, lowest_cell, slice-past, slice_made, steps_below}
use Rattle.mesh.proofs.Made.{depth_made, height_made, width_made}
use Rattle.mesh.proofs.Meshing.{side_cleared}
use Rattle.mesh.proofs.Tables.{facing_read}
use Rattle.mesh.proofs.lay.lay_slice.Goals as goal

pub cell_up-cell-requires : goal.cell_up-cell-requires
cell_up-cell-requires c = (low_below c.args.p, steps_below c.args.p c.args.face (depth_some c.args.p _) (facing-none _))

pub returns-then-on_axis-slice-clause-lies : goal.returns-then-on_axis-slice-clause-lies
returns-then-on_axis-slice-clause-lies c =
    let p = c.args.p in
    let d = rw c.side_of-side.ensures at (depth_made p c.side_of-side.result c.on_axis.ensures) in
    slice-past p c.args.face (omega (arith, d, c.if-on_axis-slice.true)) (c.cell_up-cell.ensures ∙ lowest_cell p c.args.face (depth_some p _) (facing-none _))

pub returns-then-on_axis-slice-clause-laid : goal.returns-then-on_axis-slice-clause-laid
returns-then-on_axis-slice-clause-laid c =
    let p = c.args.p in
    let d = rw c.side_of-side.ensures at (depth_made p c.side_of-side.result c.on_axis.ensures) in
    lays_none (open_in p.scene) (shape_in p.scene) (look_in p.scene) (part_of p) (side_number c.args.face) (omega (arith, d, c.if-on_axis-slice.true))

pub fill_part-requires : goal.fill_part-requires
fill_part-requires c =
    let s = c.side_of-side.result in
    (side_cleared c.args.p c.requires refl s.known, omega (arith, depth_made c.args.p s c.on_axis.ensures, c.if-on_axis-slice.false))

pub cell_up-requires : goal.cell_up-requires
cell_up-requires c =
    let p = c.args.p in
    let s = c.side_of-side.result in
    let e = c.side_of-side.ensures in
    let d = rw e at (depth_made p s c.on_axis.ensures) in
    (low_below p, steps_below p c.args.face (omega (arith, d, c.if-on_axis-slice.false)) (c.to_axes.ensures ∙ facing_read s c.args.slice 0 0 ∙ ap (λ (s : ℕ). facing s c.args.slice 0 0) e))

pub returns-clause-lies : goal.returns-clause-lies
returns-clause-lies c =
    let p = c.args.p in
    let s = c.side_of-side.result in
    let e = c.side_of-side.ensures in
    let d = rw e at (depth_made p s c.on_axis.ensures) in
    let l : c.args.slice < depth_of (part_of p) (side_number c.args.face) = omega (arith, d, c.if-on_axis-slice.false) in
    slice_made p c.args.face l
    (c.cell_up.ensures ∙ lowest_cell p c.args.face l (c.to_axes.ensures ∙ facing_read s c.args.slice 0 0 ∙ ap (λ (s : ℕ). facing s c.args.slice 0 0) e))
    (rw e at (width_made p s c.on_axis-2.ensures)) (rw e at (height_made p s c.on_axis-3.ensures))

pub returns-clause-laid : goal.returns-clause-laid
returns-clause-laid c =
    let p = c.args.p in
    let s = c.side_of-side.result in
    rw c.side_of-side.ensures at
    (lays (open_in p.scene) (shape_in p.scene) (look_in p.scene) (part_of p) s.number (omega (arith, depth_made p s c.on_axis.ensures, c.if-on_axis-slice.false)) (side_cleared p c.requires refl s.known).room c.fill_part.ensures)
