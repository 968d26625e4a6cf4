-- Document 01's example, the same stand loaded, and the sheet's refusals hold: worked out by evaluation.
use mathlib.Core.Path.{◌≡◌, refl}
use mathlib.Core.List.{[], ◌∷◌}
use Prim.Native.Nat.{ℕ}
use Rattle.arith.specs.Saturate.{saturate}
use Rattle.arith.specs.Wrap as W
use Rattle.stand.specs.Cells.{moved}
use Rattle.stand.specs.Edit as E
use Rattle.stand.specs.Feed as D
use Rattle.stand.specs.Fill as L
use Rattle.stand.specs.Hash as H
use Rattle.stand.specs.Opening as O
use Rattle.stand.specs.Refusal as R
use Rattle.stand.specs.Shape as S
use Rattle.stand.specs.Sides as I
use Rattle.stand.specs.Storage as T
use Rattle.arith.specs.Bytes as B
use Rattle.arith.specs.Bytes.{Bytes}
use Rattle.arith.proofs.bytes.Laws.{bytes_so}
use Rattle.form.specs.Calls as Y
use Rattle.form.specs.Entries as Z
use Rattle.form.specs.Form as Q
use Rattle.mesh.specs.Cover as K
use Rattle.mesh.specs.Faces as F
use Rattle.mesh.specs.Merge as G
use Rattle.mesh.specs.Near.{gaps, near, shares_face}
use Rattle.mesh.specs.Panels as N
use Rattle.mesh.specs.Part as M
use Rattle.mesh.specs.Visible as X
use Rattle.sheet.specs.Calls as P
use Rattle.sheet.specs.Card.{payable, rated}
use Rattle.sheet.specs.Due.{due_of, hits, todo}
use Rattle.sheet.specs.Row.{cents_of, measured, priced, row_of, slice_priced}
use Rattle.sheet.specs.Rows.{remake, remeasure, row_at, sane, sums}
use Rattle.ledger.specs.Calls as C
use Rattle.ledger.specs.Quoted.{Far, Loaded, Printed, Quoted, Refusals, cubes, filling_first, thirty_three}

printed : (k a b c d e f : ℕ) → Printed k a b c d e f
unfolding O.opened_shape O.sizes_of O.size_on S.sections S.product S.counted S.chunks_in S.chunks_on S.last_fits R.first R.answer T.fresh_state T.volume_of T.fresh_storage T.storage_fits S.well_formed S.good S.axis_good S.shape_of S.opens E.fitting E.edited E.set_def E.put E.changed E.advanced E.solid_after E.hash_after E.toggled E.look S.slot S.slot_at S.distance S.over S.rest S.section_at S.within_at S.cell_from H.term_of H.split_mix H.xor_shift W.mul64 E.set_call E.set_refusal S.inside S.inside_on L.fill_call L.fill_refusal L.fill_def L.set_each L.and_then L.box_cells L.solid_cells L.plane_cells L.row_cells L.box_of L.spanning L.low_cell L.high_cell L.low_z L.high_z L.cells_in L.below_spot L.below_on L.past M.largest_side M.section_part S.corner S.chunk_place N.part_panels N.panels_to N.side_panels N.slice_panels N.boxes_of N.quad_of N.steps_of M.slice_mask M.slot_shown M.table M.cell_in M.added M.facing M.turned M.depth_of M.width_of M.height_of X.shown X.clears X.ahead I.normal_at I.first_at I.second_at I.step_at I.step_on I.way_at moved saturate G.upto G.all G.full G.grow G.rep G.clear_box G.size G.alike G.box_at G.cut G.cut_to G.total G.limits F.wiped K.face_sum K.sum_to near shares_face gaps D.walk D.given_at D.logged P.want_of P.all_priced P.open_fits P.refresh_fits P.measure_refusal P.measuring P.open_call P.refresh_call P.totals_refusal P.totals_call rated payable hits due_of todo cents_of row_of measured slice_priced priced remake row_at remeasure sums sane C.given C.result C.edited C.sheeted C.left_by C.step C.run
printed k a b c d e f =
    record {
      filled = refl;
      filled_at = refl;
      emptied = refl;
      emptied-at = refl;
    }

-- ---- the stand loaded

loaded : (w : Bytes cubes) (k a b c d e f : ℕ) → Loaded w k a b c d e f
unfolding O.opened_shape O.sizes_of O.size_on S.sections S.product S.counted S.chunks_in S.chunks_on S.last_fits R.first R.answer T.fresh_state T.volume_of T.fresh_storage T.storage_fits S.well_formed S.good S.axis_good S.shape_of S.opens E.fitting E.edited E.set_def E.put E.changed E.advanced E.solid_after E.hash_after E.toggled E.look S.slot S.slot_at S.distance S.over S.rest S.section_at S.within_at S.cell_from H.term_of H.split_mix H.xor_shift W.mul64 E.set_call E.set_refusal S.inside S.inside_on L.fill_call L.fill_refusal L.fill_def L.set_each L.and_then L.box_cells L.solid_cells L.plane_cells L.row_cells L.box_of L.spanning L.low_cell L.high_cell L.low_z L.high_z L.cells_in L.below_spot L.below_on L.past M.largest_side M.section_part S.corner S.chunk_place N.part_panels N.panels_to N.side_panels N.slice_panels N.boxes_of N.quad_of N.steps_of M.slice_mask M.slot_shown M.table M.cell_in M.added M.facing M.turned M.depth_of M.width_of M.height_of X.shown X.clears X.ahead I.normal_at I.first_at I.second_at I.step_at I.step_on I.way_at moved saturate G.upto G.all G.full G.grow G.rep G.clear_box G.size G.alike G.box_at G.cut G.cut_to G.total G.limits F.wiped K.face_sum K.sum_to near shares_face gaps D.walk D.given_at D.logged P.want_of P.all_priced P.open_fits P.refresh_fits P.measure_refusal P.measuring P.open_call P.refresh_call P.totals_refusal P.totals_call rated payable hits due_of todo cents_of row_of measured slice_priced priced remake row_at remeasure sums sane C.given C.result C.edited C.sheeted C.left_by C.step C.run H.digest_of H.digest_start H.shape_words H.fold_words H.fold_word O.too_many O.last_inside S.spot_at B.short_at B.word_at B.double_at B.signed_of B.signed_at Y.is_form Y.load_refusal Y.loaded Y.load_call Z.inside_at Z.placed Z.mixed Z.digest_with Z.loaded_storage Q.head_shape Q.has_head Q.count_in Q.entry_in Q.entries_at Q.entries_in Q.good_in Q.good_from Q.valid C.opened
loaded w k a b c d e f =
    record {
      loaded = refl;
      loaded_at = refl;
      emptied = refl;
      emptied-at = refl;
    }

refusals : Refusals
unfolding O.opened_shape O.sizes_of O.size_on S.sections S.product S.counted S.chunks_in S.chunks_on S.last_fits R.first R.answer T.fresh_state T.volume_of T.fresh_storage T.storage_fits S.well_formed S.good S.axis_good S.shape_of S.opens E.fitting E.edited E.set_def E.put E.changed E.advanced E.solid_after E.hash_after E.toggled E.look S.slot S.slot_at S.distance S.over S.rest S.section_at S.within_at S.cell_from H.term_of H.split_mix H.xor_shift W.mul64 E.set_call E.set_refusal S.inside S.inside_on L.fill_call L.fill_refusal L.fill_def L.set_each L.and_then L.box_cells L.solid_cells L.plane_cells L.row_cells L.box_of L.spanning L.low_cell L.high_cell L.low_z L.high_z L.cells_in L.below_spot L.below_on L.past M.largest_side M.section_part S.corner S.chunk_place N.part_panels N.panels_to N.side_panels N.slice_panels N.boxes_of N.quad_of N.steps_of M.slice_mask M.slot_shown M.table M.cell_in M.added M.facing M.turned M.depth_of M.width_of M.height_of X.shown X.clears X.ahead I.normal_at I.first_at I.second_at I.step_at I.step_on I.way_at moved saturate G.upto G.all G.full G.grow G.rep G.clear_box G.size G.alike G.box_at G.cut G.cut_to G.total G.limits F.wiped K.face_sum K.sum_to near shares_face gaps D.walk D.given_at D.logged P.want_of P.all_priced P.open_fits P.refresh_fits P.measure_refusal P.measuring P.open_call P.refresh_call P.totals_refusal P.totals_call rated payable hits due_of todo cents_of row_of measured slice_priced priced remake row_at remeasure sums sane C.given C.result C.edited C.sheeted C.left_by C.step C.run
refusals =
    record {
      three = refl;
      four = refl;
      four-totals = refl;
      eight = refl;
      ten = refl;
      ten-refresh = refl;
      twelve_list = refl;
      twelve_rate = refl;
      twelve_cut = refl;
      thirteen_panels = refl;
      thirteen_faces = refl;
      thirteen_cents = refl;
      thirteen_not = refl;
    }

far : (a b c d e f g h i : ℕ) → Far a b c d e f g h i
unfolding O.opened_shape O.sizes_of O.size_on S.sections S.product S.counted S.chunks_in S.chunks_on S.last_fits R.first R.answer T.fresh_state T.volume_of T.fresh_storage T.storage_fits S.well_formed S.good S.axis_good S.shape_of S.opens E.fitting E.edited E.set_def E.put E.changed E.advanced E.solid_after E.hash_after E.toggled E.look S.slot S.slot_at S.distance S.over S.rest S.section_at S.within_at S.cell_from H.term_of H.split_mix H.xor_shift W.mul64 E.set_call E.set_refusal S.inside S.inside_on L.fill_call L.fill_refusal L.fill_def L.set_each L.and_then L.box_cells L.solid_cells L.plane_cells L.row_cells L.box_of L.spanning L.low_cell L.high_cell L.low_z L.high_z L.cells_in L.below_spot L.below_on L.past M.largest_side M.section_part S.corner S.chunk_place N.part_panels N.panels_to N.side_panels N.slice_panels N.boxes_of N.quad_of N.steps_of M.slice_mask M.slot_shown M.table M.cell_in M.added M.facing M.turned M.depth_of M.width_of M.height_of X.shown X.clears X.ahead I.normal_at I.first_at I.second_at I.step_at I.step_on I.way_at moved saturate G.upto G.all G.full G.grow G.rep G.clear_box G.size G.alike G.box_at G.cut G.cut_to G.total G.limits F.wiped K.face_sum K.sum_to near shares_face gaps D.walk D.given_at D.logged P.want_of P.all_priced P.open_fits P.refresh_fits P.measure_refusal P.measuring P.open_call P.refresh_call P.totals_refusal P.totals_call rated payable hits due_of todo cents_of row_of measured slice_priced priced remake row_at remeasure sums sane C.given C.result C.edited C.sheeted C.left_by C.step C.run
far a b c d e f g h i =
    record {
      one = refl;
      lag_equal = refl;
    }

lag_above : (a b c d e f g h i : ℕ) → (C.run (thirty_three a b c d e f g h i) (filling_first 4)).sheet ≡ 6 ∷ 18 ∷ 2100 ∷ 0 ∷ 0 ∷ 0 ∷ 0 ∷ 0 ∷ 0 ∷ []
unfolding O.opened_shape O.sizes_of O.size_on S.sections S.product S.counted S.chunks_in S.chunks_on S.last_fits R.first R.answer T.fresh_state T.volume_of T.fresh_storage T.storage_fits S.well_formed S.good S.axis_good S.shape_of S.opens E.fitting E.edited E.set_def E.put E.changed E.advanced E.solid_after E.hash_after E.toggled E.look S.slot S.slot_at S.distance S.over S.rest S.section_at S.within_at S.cell_from H.term_of H.split_mix H.xor_shift W.mul64 E.set_call E.set_refusal S.inside S.inside_on L.fill_call L.fill_refusal L.fill_def L.set_each L.and_then L.box_cells L.solid_cells L.plane_cells L.row_cells L.box_of L.spanning L.low_cell L.high_cell L.low_z L.high_z L.cells_in L.below_spot L.below_on L.past M.largest_side M.section_part S.corner S.chunk_place N.part_panels N.panels_to N.side_panels N.slice_panels N.boxes_of N.quad_of N.steps_of M.slice_mask M.slot_shown M.table M.cell_in M.added M.facing M.turned M.depth_of M.width_of M.height_of X.shown X.clears X.ahead I.normal_at I.first_at I.second_at I.step_at I.step_on I.way_at moved saturate G.upto G.all G.full G.grow G.rep G.clear_box G.size G.alike G.box_at G.cut G.cut_to G.total G.limits F.wiped K.face_sum K.sum_to near shares_face gaps D.walk D.given_at D.logged P.want_of P.all_priced P.open_fits P.refresh_fits P.measure_refusal P.measuring P.open_call P.refresh_call P.totals_refusal P.totals_call rated payable hits due_of todo cents_of row_of measured slice_priced priced remake row_at remeasure sums sane C.given C.result C.edited C.sheeted C.left_by C.step C.run
lag_above a b c d e f g h i = refl

pub quoted : Quoted
quoted = record { printed = printed; cubes-typed = bytes_so cubes refl; loaded = loaded; refusals = refusals; far = far; lag_above = lag_above }
