-- P1 to P12 hold: worked out by evaluation.
use Prim.Native.Nat.{ℕ}
use mathlib.Core.Path.{◌≡◌, refl, ap}
use mathlib.Core.Bool.{true, false}
use mathlib.Core.List.{[], ◌∷◌, map}
use Rattle.arith.specs.Saturate.{saturate}
use Rattle.arith.specs.Wrap as W
use Rattle.stand.specs.Cells.{moved}
use Rattle.stand.specs.Edit as E
use Rattle.stand.specs.Feed as D
use Rattle.stand.specs.Fill as L
use Rattle.stand.specs.Hash as H
use Rattle.stand.specs.Opening as O
use Rattle.stand.specs.Read as A
use Rattle.stand.specs.Refusal as R
use Rattle.stand.specs.Shape as S
use Rattle.stand.specs.Sides as I
use Rattle.stand.specs.Storage as T
use Rattle.stand.specs.declared.volume.Extent.{Extent}
use Rattle.mesh.specs.Faces as F
use Rattle.mesh.specs.Merge as G
use Rattle.mesh.specs.Panels as N
use Rattle.mesh.specs.Part as M
use Rattle.mesh.specs.Visible as X
use Rattle.mesh.specs.declared.Quad.{Quad}
use Rattle.ledger.specs.Trestles.{Trestles, cell, changed_from, extent, filled_beside, header_at, mesh_one, opening_at, set_back, seventeen, since_mark, stand_at, top_of_three}

-- ---- openings

-- what refuses an opening from (x, 0, 0) on, on storage of these lengths
abbrev refusal_at : ℕ → Extent → T.Lengths → ℕ
refusal_at x size l = O.open_refusal (O.opened_shape (cell x 0 0) size) l

opening-gives : (st : T.Storage) (x : ℕ) (size : Extent) → refusal_at x size (T.lengths_of st) ≡ 0
    → opening_at x size st ≡ R.gives (T.volume_of (O.opened_shape (cell x 0 0) size) 0 0)
unfolding O.open_call O.opened
opening-gives st x size e = ap (λ (n : ℕ). (O.opened n st (O.opened_shape (cell x 0 0) size)).answer) e

p1-passed : (l : T.Lengths) → T.storage_fits 1 l ≡ true → refusal_at 0 (extent 0 0 0) l ≡ 0
unfolding O.open_refusal O.opened_shape O.sizes_of O.size_on O.too_many O.last_inside S.sections S.product S.counted S.chunks_in S.chunks_on S.last_fits R.first
p1-passed l h = rw h

p1 : (st : T.Storage) → T.storage_fits 1 (T.lengths_of st) ≡ true → opening_at 0 (extent 0 0 0) st ≡ R.gives (header_at 0 (S.point_of 1 1 1))
unfolding O.opened_shape O.sizes_of O.size_on
p1 st h = opening-gives st 0 (extent 0 0 0) (p1-passed (T.lengths_of st) h)

p2-passed : (l : T.Lengths) → T.storage_fits 65536 l ≡ true → refusal_at 0 (extent 1048576 1 1) l ≡ 0
unfolding O.open_refusal O.opened_shape O.sizes_of O.size_on O.too_many O.last_inside S.sections S.product S.counted S.chunks_in S.chunks_on S.last_fits R.first
p2-passed l h = rw h

p2 : (st : T.Storage) → T.storage_fits 65536 (T.lengths_of st) ≡ true → opening_at 0 (extent 1048576 1 1) st ≡ R.gives (header_at 0 (S.point_of 1048576 1 1))
unfolding O.opened_shape O.sizes_of O.size_on
p2 st h = opening-gives st 0 (extent 1048576 1 1) (p2-passed (T.lengths_of st) h)

p2_more : (st : T.Storage) → opening_at 0 (extent 1048577 1 1) st ≡ R.refused 1
unfolding O.open_call O.opened O.open_refusal O.opened_shape O.sizes_of O.size_on O.too_many O.last_inside S.sections S.product S.counted S.chunks_in S.chunks_on S.last_fits R.first
p2_more st = refl

p3-passed : (l : T.Lengths) → T.storage_fits 1 l ≡ true → refusal_at 2147483647 (extent 1 1 1) l ≡ 0
unfolding O.open_refusal O.opened_shape O.sizes_of O.size_on O.too_many O.last_inside S.sections S.product S.counted S.chunks_in S.chunks_on S.last_fits R.first
p3-passed l h = rw h

p3 : (st : T.Storage) → T.storage_fits 1 (T.lengths_of st) ≡ true → opening_at 2147483647 (extent 1 1 1) st ≡ R.gives (header_at 2147483647 (S.point_of 1 1 1))
unfolding O.opened_shape O.sizes_of O.size_on
p3 st h = opening-gives st 2147483647 (extent 1 1 1) (p3-passed (T.lengths_of st) h)

p3_more : (st : T.Storage) → opening_at 2147483647 (extent 2 1 1) st ≡ R.refused 2
unfolding O.open_call O.opened O.open_refusal O.opened_shape O.sizes_of O.size_on O.too_many O.last_inside S.sections S.product S.counted S.chunks_in S.chunks_on S.last_fits R.first
p3_more st = refl

-- ---- changed since a mark

p4 : since_mark 15 ≡ R.gives 15
unfolding O.open_refusal O.opened_shape O.sizes_of O.size_on O.too_many O.last_inside S.sections S.product S.counted S.chunks_in S.chunks_on S.last_fits R.first T.fresh_state T.volume_of T.fresh_storage T.storage_fits S.well_formed S.good S.axis_good S.shape_of S.opens E.fitting E.edited E.set_def E.put E.changed E.advanced E.solid_after E.hash_after E.toggled E.look S.slot S.slot_at S.distance S.over S.rest S.section_at S.within_at S.cell_from H.term_of H.split_mix H.xor_shift W.mul64 L.fill_call L.fill_refusal L.fill_def L.set_each L.and_then L.box_cells L.solid_cells L.plane_cells L.row_cells L.box_of L.spanning L.low_cell L.high_cell L.low_z L.high_z L.cells_in L.below_spot L.below_on L.past D.changed_since D.changed_step D.feed_refusal D.next_from D.given_at D.logged R.answer
p4 = refl

p4-walk : D.walk 2 seventeen.log seventeen.last 15 2 ≡ 0 ∷ 1 ∷ []
unfolding O.open_refusal O.opened_shape O.sizes_of O.size_on O.too_many O.last_inside S.sections S.product S.counted S.chunks_in S.chunks_on S.last_fits R.first T.fresh_state T.volume_of T.fresh_storage T.storage_fits S.well_formed S.good S.axis_good S.shape_of S.opens E.fitting E.edited E.set_def E.put E.changed E.advanced E.solid_after E.hash_after E.toggled E.look S.slot S.slot_at S.distance S.over S.rest S.section_at S.within_at S.cell_from H.term_of H.split_mix H.xor_shift W.mul64 L.fill_call L.fill_refusal L.fill_def L.set_each L.and_then L.box_cells L.solid_cells L.plane_cells L.row_cells L.box_of L.spanning L.low_cell L.high_cell L.low_z L.high_z L.cells_in L.below_spot L.below_on L.past D.changed_since D.changed_step D.feed_refusal D.next_from D.given_at D.logged R.answer D.walk
p4-walk = refl

p4-first : changed_from 15 ≡ R.gives (D.Next.chunk 0 16)
unfolding O.open_refusal O.opened_shape O.sizes_of O.size_on O.too_many O.last_inside S.sections S.product S.counted S.chunks_in S.chunks_on S.last_fits R.first T.fresh_state T.volume_of T.fresh_storage T.storage_fits S.well_formed S.good S.axis_good S.shape_of S.opens E.fitting E.edited E.set_def E.put E.changed E.advanced E.solid_after E.hash_after E.toggled E.look S.slot S.slot_at S.distance S.over S.rest S.section_at S.within_at S.cell_from H.term_of H.split_mix H.xor_shift W.mul64 L.fill_call L.fill_refusal L.fill_def L.set_each L.and_then L.box_cells L.solid_cells L.plane_cells L.row_cells L.box_of L.spanning L.low_cell L.high_cell L.low_z L.high_z L.cells_in L.below_spot L.below_on L.past D.changed_since D.changed_step D.feed_refusal D.next_from D.given_at D.logged R.answer
p4-first = refl

p5 : changed_from 16 ≡ R.gives (D.Next.chunk 1 17)
unfolding O.open_refusal O.opened_shape O.sizes_of O.size_on O.too_many O.last_inside S.sections S.product S.counted S.chunks_in S.chunks_on S.last_fits R.first T.fresh_state T.volume_of T.fresh_storage T.storage_fits S.well_formed S.good S.axis_good S.shape_of S.opens E.fitting E.edited E.set_def E.put E.changed E.advanced E.solid_after E.hash_after E.toggled E.look S.slot S.slot_at S.distance S.over S.rest S.section_at S.within_at S.cell_from H.term_of H.split_mix H.xor_shift W.mul64 L.fill_call L.fill_refusal L.fill_def L.set_each L.and_then L.box_cells L.solid_cells L.plane_cells L.row_cells L.box_of L.spanning L.low_cell L.high_cell L.low_z L.high_z L.cells_in L.below_spot L.below_on L.past D.changed_since D.changed_step D.feed_refusal D.next_from D.given_at D.logged R.answer
p5 = refl

p6 : changed_from 17 ≡ R.gives D.Next.end
unfolding O.open_refusal O.opened_shape O.sizes_of O.size_on O.too_many O.last_inside S.sections S.product S.counted S.chunks_in S.chunks_on S.last_fits R.first T.fresh_state T.volume_of T.fresh_storage T.storage_fits S.well_formed S.good S.axis_good S.shape_of S.opens E.fitting E.edited E.set_def E.put E.changed E.advanced E.solid_after E.hash_after E.toggled E.look S.slot S.slot_at S.distance S.over S.rest S.section_at S.within_at S.cell_from H.term_of H.split_mix H.xor_shift W.mul64 L.fill_call L.fill_refusal L.fill_def L.set_each L.and_then L.box_cells L.solid_cells L.plane_cells L.row_cells L.box_of L.spanning L.low_cell L.high_cell L.low_z L.high_z L.cells_in L.below_spot L.below_on L.past D.changed_since D.changed_step D.feed_refusal D.next_from D.given_at D.logged R.answer
p6 = refl

p7 : since_mark 18 ≡ R.refused 8
unfolding O.open_refusal O.opened_shape O.sizes_of O.size_on O.too_many O.last_inside S.sections S.product S.counted S.chunks_in S.chunks_on S.last_fits R.first T.fresh_state T.volume_of T.fresh_storage T.storage_fits S.well_formed S.good S.axis_good S.shape_of S.opens E.fitting E.edited E.set_def E.put E.changed E.advanced E.solid_after E.hash_after E.toggled E.look S.slot S.slot_at S.distance S.over S.rest S.section_at S.within_at S.cell_from H.term_of H.split_mix H.xor_shift W.mul64 L.fill_call L.fill_refusal L.fill_def L.set_each L.and_then L.box_cells L.solid_cells L.plane_cells L.row_cells L.box_of L.spanning L.low_cell L.high_cell L.low_z L.high_z L.cells_in L.below_spot L.below_on L.past D.changed_since D.changed_step D.feed_refusal D.next_from D.given_at D.logged R.answer
p7 = refl

p8 : since_mark 14 ≡ R.refused 9
unfolding O.open_refusal O.opened_shape O.sizes_of O.size_on O.too_many O.last_inside S.sections S.product S.counted S.chunks_in S.chunks_on S.last_fits R.first T.fresh_state T.volume_of T.fresh_storage T.storage_fits S.well_formed S.good S.axis_good S.shape_of S.opens E.fitting E.edited E.set_def E.put E.changed E.advanced E.solid_after E.hash_after E.toggled E.look S.slot S.slot_at S.distance S.over S.rest S.section_at S.within_at S.cell_from H.term_of H.split_mix H.xor_shift W.mul64 L.fill_call L.fill_refusal L.fill_def L.set_each L.and_then L.box_cells L.solid_cells L.plane_cells L.row_cells L.box_of L.spanning L.low_cell L.high_cell L.low_z L.high_z L.cells_in L.below_spot L.below_on L.past D.changed_since D.changed_step D.feed_refusal D.next_from D.given_at D.logged R.answer
p8 = refl

-- ---- edits

p9_hashes : set_back.hashes ≡ (stand_at 0 (extent 17 1 1)).hashes
unfolding O.open_refusal O.opened_shape O.sizes_of O.size_on O.too_many O.last_inside S.sections S.product S.counted S.chunks_in S.chunks_on S.last_fits R.first T.fresh_state T.volume_of T.fresh_storage T.storage_fits S.well_formed S.good S.axis_good S.shape_of S.opens E.fitting E.edited E.set_def E.put E.changed E.advanced E.solid_after E.hash_after E.toggled E.look S.slot S.slot_at S.distance S.over S.rest S.section_at S.within_at S.cell_from H.term_of H.split_mix H.xor_shift W.mul64 E.set_call E.set_refusal S.inside S.inside_on
p9_hashes = refl

p9_digest : A.digest_call set_back.volume set_back.hashes ≡ A.digest_call (stand_at 0 (extent 17 1 1)).volume (stand_at 0 (extent 17 1 1)).hashes
unfolding O.open_refusal O.opened_shape O.sizes_of O.size_on O.too_many O.last_inside S.sections S.product S.counted S.chunks_in S.chunks_on S.last_fits R.first T.fresh_state T.volume_of T.fresh_storage T.storage_fits S.well_formed S.good S.axis_good S.shape_of S.opens E.fitting E.edited E.set_def E.put E.changed E.advanced E.solid_after E.hash_after E.toggled E.look S.slot S.slot_at S.distance S.over S.rest S.section_at S.within_at S.cell_from H.term_of H.split_mix H.xor_shift W.mul64 E.set_call E.set_refusal S.inside S.inside_on A.digest_call H.digest_of H.fold_words H.fold_word H.shape_words H.digest_start R.answer
p9_digest = refl

p9_version : set_back.versions ≡ 0 ∷ 2 ∷ []
unfolding O.open_refusal O.opened_shape O.sizes_of O.size_on O.too_many O.last_inside S.sections S.product S.counted S.chunks_in S.chunks_on S.last_fits R.first T.fresh_state T.volume_of T.fresh_storage T.storage_fits S.well_formed S.good S.axis_good S.shape_of S.opens E.fitting E.edited E.set_def E.put E.changed E.advanced E.solid_after E.hash_after E.toggled E.look S.slot S.slot_at S.distance S.over S.rest S.section_at S.within_at S.cell_from H.term_of H.split_mix H.xor_shift W.mul64 E.set_call E.set_refusal S.inside S.inside_on
p9_version = refl

p9_generation : set_back.volume.generation ≡ 2
unfolding O.open_refusal O.opened_shape O.sizes_of O.size_on O.too_many O.last_inside S.sections S.product S.counted S.chunks_in S.chunks_on S.last_fits R.first T.fresh_state T.volume_of T.fresh_storage T.storage_fits S.well_formed S.good S.axis_good S.shape_of S.opens E.fitting E.edited E.set_def E.put E.changed E.advanced E.solid_after E.hash_after E.toggled E.look S.slot S.slot_at S.distance S.over S.rest S.section_at S.within_at S.cell_from H.term_of H.split_mix H.xor_shift W.mul64 E.set_call E.set_refusal S.inside S.inside_on
p9_generation = refl

p10 : filled_beside.answer ≡ R.gives 0
unfolding O.open_refusal O.opened_shape O.sizes_of O.size_on O.too_many O.last_inside S.sections S.product S.counted S.chunks_in S.chunks_on S.last_fits R.first T.fresh_state T.volume_of T.fresh_storage T.storage_fits S.well_formed S.good S.axis_good S.shape_of S.opens E.fitting E.edited E.set_def E.put E.changed E.advanced E.solid_after E.hash_after E.toggled E.look S.slot S.slot_at S.distance S.over S.rest S.section_at S.within_at S.cell_from H.term_of H.split_mix H.xor_shift W.mul64 L.fill_call L.fill_refusal L.fill_def L.set_each L.and_then L.box_cells L.solid_cells L.plane_cells L.row_cells L.box_of L.spanning L.low_cell L.high_cell L.low_z L.high_z L.cells_in L.below_spot L.below_on L.past
p10 = refl

p10-state : filled_beside.state ≡ stand_at 0 (extent 2 1 1)
unfolding O.open_refusal O.opened_shape O.sizes_of O.size_on O.too_many O.last_inside S.sections S.product S.counted S.chunks_in S.chunks_on S.last_fits R.first T.fresh_state T.volume_of T.fresh_storage T.storage_fits S.well_formed S.good S.axis_good S.shape_of S.opens E.fitting E.edited E.set_def E.put E.changed E.advanced E.solid_after E.hash_after E.toggled E.look S.slot S.slot_at S.distance S.over S.rest S.section_at S.within_at S.cell_from H.term_of H.split_mix H.xor_shift W.mul64 L.fill_call L.fill_refusal L.fill_def L.set_each L.and_then L.box_cells L.solid_cells L.plane_cells L.row_cells L.box_of L.spanning L.low_cell L.high_cell L.low_z L.high_z L.cells_in L.below_spot L.below_on L.past
p10-state = refl

-- ---- panels

p11 : mesh_one 0 true ≡ F.Meshed.panels 6
unfolding O.open_refusal O.opened_shape O.sizes_of O.size_on O.too_many O.last_inside S.sections S.product S.counted S.chunks_in S.chunks_on S.last_fits R.first T.fresh_state T.volume_of T.fresh_storage T.storage_fits S.well_formed S.good S.axis_good S.shape_of S.opens E.fitting E.edited E.set_def E.put E.changed E.advanced E.solid_after E.hash_after E.toggled E.look S.slot S.slot_at S.distance S.over S.rest S.section_at S.within_at S.cell_from H.term_of H.split_mix H.xor_shift W.mul64 E.set_call E.set_refusal S.inside S.inside_on F.chunk_faces_call F.part_call F.meshed F.written M.largest_side M.section_part S.corner S.chunk_place N.part_panels N.panels_to N.side_panels N.slice_panels N.boxes_of N.quad_of N.steps_of M.slice_mask M.slot_shown M.table M.cell_in M.added M.facing M.turned M.depth_of M.width_of M.height_of X.shown X.clears X.ahead I.normal_at I.first_at I.second_at I.step_at I.step_on I.way_at moved saturate G.upto G.all G.full G.grow G.rep G.clear_box G.size G.alike G.box_at G.cut G.cut_to G.total G.limits
p11 = refl

p11-solid : mesh_one 0 false ≡ F.Meshed.panels 0
unfolding O.open_refusal O.opened_shape O.sizes_of O.size_on O.too_many O.last_inside S.sections S.product S.counted S.chunks_in S.chunks_on S.last_fits R.first T.fresh_state T.volume_of T.fresh_storage T.storage_fits S.well_formed S.good S.axis_good S.shape_of S.opens E.fitting E.edited E.set_def E.put E.changed E.advanced E.solid_after E.hash_after E.toggled E.look S.slot S.slot_at S.distance S.over S.rest S.section_at S.within_at S.cell_from H.term_of H.split_mix H.xor_shift W.mul64 E.set_call E.set_refusal S.inside S.inside_on F.chunk_faces_call F.part_call F.meshed F.written M.largest_side M.section_part S.corner S.chunk_place N.part_panels N.panels_to N.side_panels N.slice_panels N.boxes_of N.quad_of N.steps_of M.slice_mask M.slot_shown M.table M.cell_in M.added M.facing M.turned M.depth_of M.width_of M.height_of X.shown X.clears X.ahead I.normal_at I.first_at I.second_at I.step_at I.step_on I.way_at moved saturate G.upto G.all G.full G.grow G.rep G.clear_box G.size G.alike G.box_at G.cut G.cut_to G.total G.limits
p11-solid = refl

p11-last : mesh_one 2147483647 true ≡ F.Meshed.panels 5
unfolding O.open_refusal O.opened_shape O.sizes_of O.size_on O.too_many O.last_inside S.sections S.product S.counted S.chunks_in S.chunks_on S.last_fits R.first T.fresh_state T.volume_of T.fresh_storage T.storage_fits S.well_formed S.good S.axis_good S.shape_of S.opens E.fitting E.edited E.set_def E.put E.changed E.advanced E.solid_after E.hash_after E.toggled E.look S.slot S.slot_at S.distance S.over S.rest S.section_at S.within_at S.cell_from H.term_of H.split_mix H.xor_shift W.mul64 E.set_call E.set_refusal S.inside S.inside_on F.chunk_faces_call F.part_call F.meshed F.written M.largest_side M.section_part S.corner S.chunk_place N.part_panels N.panels_to N.side_panels N.slice_panels N.boxes_of N.quad_of N.steps_of M.slice_mask M.slot_shown M.table M.cell_in M.added M.facing M.turned M.depth_of M.width_of M.height_of X.shown X.clears X.ahead I.normal_at I.first_at I.second_at I.step_at I.step_on I.way_at moved saturate G.upto G.all G.full G.grow G.rep G.clear_box G.size G.alike G.box_at G.cut G.cut_to G.total G.limits
p11-last = refl

p12 : map (λ (q : Quad). q.extent) top_of_three ≡ extent 2 1 1 ∷ extent 1 1 1 ∷ []
unfolding O.open_refusal O.opened_shape O.sizes_of O.size_on O.too_many O.last_inside S.sections S.product S.counted S.chunks_in S.chunks_on S.last_fits R.first T.fresh_state T.volume_of T.fresh_storage T.storage_fits S.well_formed S.good S.axis_good S.shape_of S.opens E.fitting E.edited E.set_def E.put E.changed E.advanced E.solid_after E.hash_after E.toggled E.look S.slot S.slot_at S.distance S.over S.rest S.section_at S.within_at S.cell_from H.term_of H.split_mix H.xor_shift W.mul64 E.set_call E.set_refusal S.inside S.inside_on F.chunk_faces_call F.part_call F.meshed F.written M.largest_side M.section_part S.corner S.chunk_place N.part_panels N.panels_to N.side_panels N.slice_panels N.boxes_of N.quad_of N.steps_of M.slice_mask M.slot_shown M.table M.cell_in M.added M.facing M.turned M.depth_of M.width_of M.height_of X.shown X.clears X.ahead I.normal_at I.first_at I.second_at I.step_at I.step_on I.way_at moved saturate G.upto G.all G.full G.grow G.rep G.clear_box G.size G.alike G.box_at G.cut G.cut_to G.total G.limits
p12 = refl

-- ---- together

pub trestles : Trestles
trestles =
    record {
      p1 = p1;
      p2 = p2;
      p2_more = p2_more;
      p3 = p3;
      p3_more = p3_more;
      p4 = p4;
      p4-walk = p4-walk;
      p4-first = p4-first;
      p5 = p5;
      p6 = p6;
      p7 = p7;
      p8 = p8;
      p9_hashes = p9_hashes;
      p9_digest = p9_digest;
      p9_version = p9_version;
      p9_generation = p9_generation;
      p10 = p10;
      p10-state = p10-state;
      p11 = p11;
      p11-solid = p11-solid;
      p11-last = p11-last;
      p12 = p12;
    }
