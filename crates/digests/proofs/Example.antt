-- Worked stands, by evaluation; those that are one off by what a set does.
use mathlib.Core.Path.{◌≡◌, refl, sym, subst}
use mathlib.Core.Bool.{true}
use mathlib.Core.List.{List, [], ◌∷◌, map}
use Prim.Native.Nat.{ℕ, ◌<◌}
use native.Mathlib.Omega.{arith}
use lib.IntN.{pos}
use mir.Syntax.{w32}
use mir.Val.{SFits}
use Rattle.arith.specs.Bytes as B
use Rattle.arith.specs.Bytes.{Bytes}
use Rattle.arith.specs.Wrap as W
use Rattle.arith.proofs.bytes.Laws.{bytes_so}
use Rattle.stand.specs.Edit as E
use Rattle.stand.specs.Edit.{set_call}
use Rattle.stand.specs.Fill as L
use Rattle.stand.specs.Hash as H
use Rattle.stand.specs.Opening as O
use Rattle.stand.specs.Read as K
use Rattle.stand.specs.Refusal as R
use Rattle.stand.specs.Refusal.{gives}
use Rattle.stand.specs.Shape as S
use Rattle.stand.specs.Storage as T
use Rattle.stand.specs.Storage.{State}
use Rattle.stand.specs.declared.Cell.{Cell}
use Rattle.form.specs.Calls as Y
use Rattle.form.specs.Entries as Z
use Rattle.form.specs.Example.{one_block}
use Rattle.form.specs.Form as Q
use Rattle.ledger.specs.Calls as C
use Rattle.ledger.specs.Calls.{Op, own}
use Rattle.digests.specs.Digests.{AllTyped, OneOff, Reached}
use Rattle.digests.specs.Example.{Example, Hidden, LoadedBlock, Seventeen, Single, along, at, block15, block16, blocks, blocks_again, cells_along, load, pair}
use Rattle.digests.proofs.Digests.{digests}

-- any calls on a fresh stand
reached : (n : ℕ) (os : List Op) → S.opens (cells_along n) ≡ true → AllTyped (map own os) → Reached (along n os)
reached n os o t = digests.any_calls (cells_along n) (record { sheet = 0 }) [] os o origin-fits t
  where
    zero-fits : SFits w32 (pos 0)
    zero-fits = record { sfits = omega arith }

    origin-fits : S.Ranged (at 0)
    origin-fits = record { x = zero-fits; y = zero-fits; z = zero-fits }

-- and after them a set that answers 1
off : (n : ℕ) (os : List Op) (c : Cell) (v : ℕ) → S.opens (cells_along n) ≡ true → AllTyped (map own os) → v < 65536
    → (set_call (along n os) c v).answer ≡ gives 1 → OneOff (along n os) (set_call (along n os) c v).state c
off n os c v o t l e =
    let k = reached n os o t in
    subst (λ (s : State). OneOff s (set_call s c v).state c) k.stand-is
    (digests.set-off k.by_calls c v l (subst (λ (s : State). (set_call s c v).answer ≡ gives 1) (sym k.stand-is) e)).1

single : Single
unfolding S.sections S.product S.counted S.chunks_in S.chunks_on S.last_fits R.first R.answer T.fresh_state T.volume_of T.fresh_storage T.storage_fits S.well_formed S.good S.axis_good S.shape_of S.opens E.fitting E.edited E.set_def E.put E.changed E.advanced E.solid_after E.hash_after E.toggled E.look S.slot S.slot_at S.distance S.over S.rest S.section_at S.within_at H.term_of H.split_mix H.xor_shift W.mul64 E.set_call E.set_refusal S.inside S.inside_on K.digest_call H.digest_of H.digest_start H.shape_words H.fold_words H.fold_word C.given C.result C.edited C.left_by C.step C.run
single = record { none = refl; block = refl; off = off 1 [] (at 0) 1 refl tt (omega arith) refl }

loaded : (w : Bytes one_block) → LoadedBlock w
unfolding S.sections S.product S.counted S.chunks_in S.chunks_on S.last_fits R.first R.answer T.fresh_state T.volume_of T.fresh_storage T.storage_fits S.well_formed S.good S.axis_good S.shape_of S.opens E.fitting E.edited E.set_def E.put E.changed E.advanced E.solid_after E.hash_after E.toggled E.look S.slot S.slot_at S.distance S.over S.rest S.section_at S.within_at H.term_of H.split_mix H.xor_shift W.mul64 E.set_call E.set_refusal S.inside S.inside_on K.digest_call H.digest_of H.digest_start H.shape_words H.fold_words H.fold_word C.given C.result C.edited C.left_by C.step C.run C.opened O.too_many O.last_inside S.spot_at S.cell_from S.corner S.chunk_place B.short_at B.word_at B.double_at B.signed_of B.signed_at Y.is_form Y.load_refusal Y.loaded Y.load_call Z.inside_at Z.placed Z.mixed Z.digest_with Z.loaded_storage Q.head_shape Q.has_head Q.count_in Q.entry_in Q.entries_at Q.entries_in Q.good_in Q.good_from Q.valid
loaded w = record { block = refl; other = refl; off = off 1 (load w ∷ []) (at 0) 2 refl (tt, tt) (omega arith) refl }

seventeen : Seventeen
unfolding S.sections S.product S.counted S.chunks_in S.chunks_on S.last_fits R.first R.answer T.fresh_state T.volume_of T.fresh_storage T.storage_fits S.well_formed S.good S.axis_good S.shape_of S.opens E.fitting E.edited E.set_def E.put E.changed E.advanced E.solid_after E.hash_after E.toggled E.look S.slot S.slot_at S.distance S.over S.rest S.section_at S.within_at S.cell_from H.term_of H.split_mix H.xor_shift W.mul64 E.set_call E.set_refusal S.inside S.inside_on K.entry_call K.digest_call H.digest_of H.digest_start H.shape_words H.fold_words H.fold_word C.given C.result C.edited C.left_by C.step C.run L.fill_call L.fill_refusal L.fill_def L.set_each L.and_then L.box_cells L.solid_cells L.plane_cells L.row_cells L.box_of L.spanning L.low_cell L.high_cell L.low_z L.high_z L.cells_in L.below_spot L.below_on L.past
seventeen =
    let o = off 17 block15 (at 16) 1 refl (omega arith, tt) (omega arith) refl in
    let p = off 17 block16 (at 15) 1 refl (omega arith, tt) (omega arith) refl in
    record {
      hashes_15 = (refl, refl);
      hashes_both = (refl, refl);
      digest_15 = refl;
      digest_16 = refl;
      digest_both = refl;
      digest_again = refl;
      reached = (
        reached 17 block15 refl (omega arith, tt),
        reached 17 blocks refl (omega arith, (omega arith, (omega arith, tt))),
        reached 17 block16 refl (omega arith, tt),
        reached 17 blocks_again refl (omega arith, (omega arith, (omega arith, tt))),
      );
      off_16 = o;
      off_15 = record { origin = refl; size = refl; there = p.there; differ = p.differ; else_same = p.else_same };
      off_again = record { origin = refl; size = refl; there = o.there; differ = λ e. o.differ (sym e); else_same = λ d i n. sym (o.else_same d i n) };
      same_again = record { origin = refl; size = refl; cells = λ d i. refl };
    }

hidden : Hidden (pair 6833 4422) (pair 8849 55627)
unfolding S.sections S.product S.counted S.chunks_in S.chunks_on S.last_fits R.first R.answer T.fresh_state T.volume_of T.fresh_storage T.storage_fits S.well_formed S.good S.axis_good S.shape_of S.opens E.fitting E.edited E.set_def E.put E.changed E.advanced E.solid_after E.hash_after E.toggled E.look S.slot S.slot_at S.distance S.over S.rest S.section_at S.within_at H.term_of H.split_mix H.xor_shift W.mul64 E.set_call E.set_refusal S.inside S.inside_on K.entry_call K.digest_call H.digest_of H.digest_start H.shape_words H.fold_words H.fold_word C.given C.result C.edited C.left_by C.step C.run
hidden = record { solid = (refl, refl); finishes = (refl, refl, refl, refl); hashes = (refl, refl); digests = (refl, refl) }

pub example : Example
example = record { single = single; block-typed = bytes_so one_block refl; loaded = loaded; seventeen = seventeen; hidden = hidden }
