use Rattle.std.proofs.Common.{◌<◌, ◌*◌, ◌+◌, length, ◌∙◌, arith}
use Rattle.stand.specs.Sides.{first_at}
use Rattle.mesh.specs.Part.{on_axis}
use Rattle.mesh.proofs.Laid.{filled_none}
use Rattle.mesh.proofs.Made.{width_made}
use Rattle.mesh.proofs.Tiling.{band-room, band_more, band_small, band_tile, chunk-lt, first-is, slice_in, wide-all, wide-some}
use Rattle.mesh.proofs.tiles.fill_band.Goals as goal
use Rattle.mesh.proofs.tiles.fill_band.Goals.{In-loop-a}

left : (c : In-loop-a) → c.loop-a.a < on_axis (first_at c.args.side.number) c.args.p.across
left c = omega (arith, c.loop-a-test.true, first-is c.args.side c.args.p.across c.on_axis-a-end.ensures)

-- where the next section is laid
room : (c : In-loop-a) → c.args.b * 16 * c.on_axis-w.result + c.loop-a.a * 16 < length c.args.mask.now
room c =
    let a = c.args in
    let w = width_made a.p a.side c.on_axis-w.ensures in
    omega (arith, w, wide-some a.p a.side.number (left c), band-room a.p a.side.number a.side.known c.requires c.on_axis-w.result w)

pub loop-a-init : goal.loop-a-init
loop-a-init c = filled_none (λ u v a b. omega arith)

pub overflow_mul-to : goal.overflow_mul-to
overflow_mul-to c = omega (arith, band_small c.args.p c.args.side.number c.args.side.known c.requires)

pub overflow_mul-to-2 : goal.overflow_mul-to-2
overflow_mul-to-2 c =
    let a = c.args in
    omega (arith, c.well_formed, band-room a.p a.side.number a.side.known c.requires c.on_axis-w.result (width_made a.p a.side c.on_axis-w.ensures))

pub tile_at-chunk-requires : goal.tile_at-chunk-requires
tile_at-chunk-requires c = band_tile c.args.p c.args.side.number c.args.side.known c.requires c.loop-a.a (left c)

pub section_of-c-requires : goal.section_of-c-requires
section_of-c-requires c =
    chunk-lt c.args.p c.args.side.number c.args.side.known c.requires c.loop-a.a (left (goal.at.section_of-c-requires c).In-loop-a) c.tile_at-chunk.ensures

pub overflow_mul-a : goal.overflow_mul-a
overflow_mul-a c = omega (arith, c.well_formed, room (goal.at.overflow_mul-a c).In-loop-a)

pub overflow_add-to : goal.overflow_add-to
overflow_add-to c = omega (arith, c.well_formed, room (goal.at.overflow_add-to c).In-loop-a)

pub fill_slice-any-requires : goal.fill_slice-any-requires
fill_slice-any-requires c =
    let a = c.args in
    let k = c.section_of-c.ensures in
    slice_in a.p a.side.number a.side.known c.requires c.loop-a.a (left (goal.at.fill_slice-any-requires c).In-loop-a) c.section_of-c.result k.0 (k.1 ∙ c.tile_at-chunk.ensures)
    c.loop-a.invariant.mask c.on_axis-w.result (width_made a.p a.side c.on_axis-w.ensures)

pub loop-a-preserved : goal.loop-a-preserved
loop-a-preserved c =
    let a = c.args in
    let k = c.section_of-c.ensures in
    band_more a.p a.side.number a.side.known c.requires c.loop-a.a (left (goal.at.loop-a-preserved c).In-loop-a) c.section_of-c.result k.0 (k.1 ∙ c.tile_at-chunk.ensures)
    c.loop-a.invariant c.on_axis-w.result (width_made a.p a.side c.on_axis-w.ensures) c.fill_slice-any.ensures

pub returns : goal.returns
returns c =
    let a = c.args in
    rw (wide-all a.p a.side.number c.loop-a.a (omega (arith, first-is a.side a.p.across c.on_axis-a-end.ensures))) at c.loop-a.invariant
