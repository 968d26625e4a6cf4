-- By evaluation.
use mathlib.Core.Path.{refl}
use Rattle.arith.specs.Wrap as W
use Rattle.stand.specs.Edit as E
use Rattle.stand.specs.Hash as H
use Rattle.stand.specs.Opening as O
use Rattle.stand.specs.Refusal as R
use Rattle.stand.specs.Shape as S
use Rattle.stand.specs.Storage as T
use Rattle.arith.specs.Bytes as B
use Rattle.form.specs.Calls as C
use Rattle.form.specs.Entries as N
use Rattle.form.specs.Example.{Example}
use Rattle.form.specs.Form as F

pub example : Example
unfolding W.mul64 E.toggled H.term_of H.split_mix H.xor_shift H.digest_of H.digest_start H.shape_words H.fold_words H.fold_word O.too_many O.last_inside R.first R.answer S.sections S.product S.counted S.chunks_in S.chunks_on S.last_fits S.inside S.inside_on S.cell_from S.spot_at S.corner S.chunk_place S.shape_of S.well_formed S.good S.axis_good T.volume_of T.fresh_storage T.storage_fits B.short_at B.word_at B.double_at B.signed_of B.signed_at B.short_bytes B.word_bytes B.double_bytes C.is_form C.load_refusal C.loaded C.load_call C.stored_form C.stored_header C.stored_length C.stored C.store_call N.inside_at N.kept_at N.entries_from N.entries_of N.placed N.mixed N.digest_with N.loaded_storage F.head_bytes F.entry_bytes F.entries_bytes F.tail_bytes F.form_of F.head_shape F.has_head F.count_in F.entry_in F.entries_at F.entries_in F.good_in F.good_from F.valid
example =
    record {
      one-stored = refl;
      beyond = refl;
      one-loaded = refl;
      last_stored = refl;
      last-loaded = refl;
      cells-loaded = refl;
      wrong_length = refl;
      one-length = refl;
      one_kept = refl;
      one-short = refl;
      too_many = refl;
      past_the_last = refl;
      wrong_digest = refl;
      wide-stored = refl;
      wide-header = refl;
    }
