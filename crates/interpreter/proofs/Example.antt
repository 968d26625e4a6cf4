-- Document 01's example holds: worked out by evaluation, from the script's bytes to the lines' bytes.
use mathlib.Core.Path.{refl}
use Rattle.arith.specs.Saturate.{saturate}
use Rattle.arith.specs.Wrap as A
use Rattle.stand.specs.Cells.{moved}
use Rattle.stand.specs.Edit as E
use Rattle.stand.specs.Feed as J
use Rattle.stand.specs.Fill as L
use Rattle.stand.specs.Hash as H
use Rattle.stand.specs.Opening as O
use Rattle.stand.specs.Refusal as R
use Rattle.stand.specs.Shape as S
use Rattle.stand.specs.Sides as I
use Rattle.stand.specs.Storage as T
use Rattle.mesh.specs.Cover as K
use Rattle.mesh.specs.Faces as F
use Rattle.mesh.specs.Merge as G
use Rattle.mesh.specs.Near.{gaps, near, shares_face}
use Rattle.mesh.specs.Panels as N
use Rattle.mesh.specs.Part as M
use Rattle.mesh.specs.Visible as X
use Rattle.sheet.specs.Calls as P
use Rattle.sheet.specs.Card.{payable, rated}
use Rattle.sheet.specs.Due.{due_of, hits, todo}
use Rattle.sheet.specs.Row.{cents_of, measured, priced, row_of, slice_priced}
use Rattle.sheet.specs.Rows.{remake, remeasure, row_at, sane, sums}
use Rattle.stand.specs.Read.{of_header}
use Rattle.arith.specs.Bytes as B
use Rattle.interpreter.specs.Decode as D
use Rattle.interpreter.specs.Example.{Example}
use Rattle.interpreter.specs.Line as W
use Rattle.interpreter.specs.Room as Q
use Rattle.interpreter.specs.Run as U
use Rattle.interpreter.specs.Script as Y

pub example : Example
unfolding O.opened_shape O.sizes_of O.size_on S.sections S.product S.counted S.chunks_in S.chunks_on S.last_fits R.first R.answer T.fresh_state T.volume_of T.fresh_storage T.storage_fits S.well_formed S.good S.axis_good S.shape_of S.opens E.fitting E.edited E.set_def E.put E.changed E.advanced E.solid_after E.hash_after E.toggled E.look S.slot S.slot_at S.distance S.over S.rest S.section_at S.within_at S.cell_from H.term_of H.split_mix H.xor_shift A.mul64 E.set_call E.set_refusal S.inside S.inside_on L.fill_call L.fill_refusal L.fill_def L.set_each L.and_then L.box_cells L.solid_cells L.plane_cells L.row_cells L.box_of L.spanning L.low_cell L.high_cell L.low_z L.high_z L.cells_in L.below_spot L.below_on L.past M.largest_side M.section_part S.corner S.chunk_place N.part_panels N.panels_to N.side_panels N.slice_panels N.boxes_of N.quad_of N.steps_of M.slice_mask M.slot_shown M.table M.cell_in M.added M.facing M.turned M.depth_of M.width_of M.height_of X.shown X.clears X.ahead I.normal_at I.first_at I.second_at I.step_at I.step_on I.way_at moved saturate G.upto G.all G.full G.grow G.rep G.clear_box G.size G.alike G.box_at G.cut G.cut_to G.total G.limits F.wiped K.face_sum K.sum_to near shares_face gaps J.walk J.given_at J.logged P.want_of P.all_priced P.open_fits P.refresh_fits P.measure_refusal P.measuring P.open_call P.refresh_call P.totals_refusal P.totals_call rated payable hits due_of todo cents_of row_of measured slice_priced priced remake row_at remeasure sums sane O.open_call O.opened O.open_refusal O.header_call of_header Example Y.printed Y.printed_to Y.step_of Y.decoded_step W.line_of W.item W.decimal W.digits_to D.decode_of D.whole D.length_of D.call_of B.short_at B.word_at B.signed_of B.signed_at D.cell_at D.extent_at Q.chunks_of Q.wanted_of Q.room_for Q.lent_of U.run_step U.open_step U.open_with U.set_step U.set_with U.fill_step U.fill_with U.held U.refresh_step U.refresh_with U.measure_call U.listed U.rate_step U.cut_step O.last_inside O.too_many
example = refl
