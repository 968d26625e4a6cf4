-- The two scripts worked out by evaluation, from bytes to bytes.
use mathlib.Core.Path.{refl}
use Rattle.arith.specs.Saturate.{saturate}
use Rattle.stand.specs.Cells.{moved}
use Rattle.stand.specs.Fill as L
use Rattle.stand.specs.Opening as O
use Rattle.stand.specs.Refusal.{first}
use Rattle.stand.specs.Shape as S
use Rattle.stand.specs.Sides as I
use Rattle.mesh.specs.Cover as K
use Rattle.mesh.specs.Merge as G
use Rattle.mesh.specs.Panels as N
use Rattle.mesh.specs.Part as M
use Rattle.mesh.specs.Visible as X
use Rattle.sheet.specs.Card.{payable, rated}
use Rattle.sheet.specs.Row.{cents_of, measured, priced, row_of, slice_priced}
use Rattle.sheet.specs.Rows.{sums}
use Rattle.ledger.specs.Book as B
use Rattle.ledger.specs.Claim.{book_sums}
use Rattle.arith.specs.Bytes as E
use Rattle.interpreter.specs.Decode as D
use Rattle.interpreter.specs.Line as W
use Rattle.scripts.specs.Page as P
use Rattle.scripts.specs.Said as Y
use Rattle.scripts.specs.Sample.{Sample}

pub sample : Sample
unfolding saturate moved first O.opened_shape O.sizes_of O.size_on O.too_many O.last_inside S.last_fits S.sections S.product S.counted S.chunks_in S.chunks_on S.inside S.inside_on S.distance S.over S.rest S.section_at S.chunk_of S.cell_from S.corner S.chunk_place L.below_spot L.below_on L.past L.box_cells L.solid_cells L.plane_cells L.row_cells L.box_of L.spanning L.low_cell L.high_cell L.low_z L.high_z L.cells_in M.section_part M.slot_shown M.slice_mask M.table M.cell_in M.added M.facing M.turned M.depth_of M.width_of M.height_of N.part_panels N.panels_to N.side_panels N.slice_panels N.boxes_of N.quad_of N.steps_of X.shown X.clears X.ahead I.normal_at I.first_at I.second_at I.step_at I.step_on I.way_at G.upto G.all G.full G.grow G.rep G.clear_box G.size G.alike G.box_at G.cut G.cut_to G.total G.limits K.face_sum K.sum_to rated payable cents_of row_of measured slice_priced priced sums book_sums B.open_book B.same_cell B.note_book B.set_book B.set_all B.unless D.decode_of D.whole D.length_of D.call_of E.short_at E.word_at E.signed_of E.signed_at D.cell_at D.extent_at W.line_of W.item W.decimal W.digits_to P.blank P.open_number P.opened P.on_book P.set_number P.fill_number P.set_on P.fill_on P.rate_number P.write Y.all_rated Y.refresh_number Y.reply_to Y.said_to Y.said
sample = record { example = refl; refusals = refl }
