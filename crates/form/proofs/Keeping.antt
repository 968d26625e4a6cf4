-- Keeping a stand in a file: all that specs/Keeping.antt promises.
use mathlib.Core.Path.{◌≡◌}
use mathlib.Core.List.{List}
use Prim.Native.Nat.{ℕ, ◌+◌, ◌*◌}
use lib.ListN.{length}
use Rattle.stand.specs.Shape.{shape_of}
use Rattle.stand.specs.Storage.{lengths_of}
use Rattle.stand.specs.declared.volume.Volume.{Volume}
use Rattle.form.specs.Calls.{stored_form}
use Rattle.form.specs.Entries.{entries_of}
use Rattle.form.specs.Form.{cell_length, end_length, head_length}
use Rattle.form.specs.Keeping.{Keeping}
use Rattle.form.proofs.Answers.{header_of, length-is, load-header, load_kept, store-front, store_is, store_kept, store-none}
use Rattle.form.proofs.Reading as R
use Rattle.form.proofs.Restoring.{restored}
use Rattle.form.proofs.Same.{same-form, same_stands}
use Rattle.form.proofs.Stored.{stored_passes}
use Rattle.form.proofs.Telling.{is-back, is-digest, is-filled, is_sound, is-stored, sound_digest}

bytes_count : (v : Volume) (cells : List ℕ) → length (stored_form v cells) ≡ head_length + end_length + length (entries_of (shape_of v) cells) * cell_length
unfolding stored_form
bytes_count v cells = R.form-length (shape_of v) (entries_of (shape_of v) cells)

pub keeping : Keeping
keeping =
    record {
      stored = store_is;
      short = store-none;
      length-first = length-is;
      store-load = restored;
      first-bytes = store-front;
      load_store = is-back;
      same_bytes = same-form;
      same-stand = same_stands;
      only_stored = is-stored;
      all-stored = λ v cells k s. stored_passes v cells k (lengths_of s);
      loaded_sound = is_sound;
      loaded-filled = is-filled;
      digest-filled = is-digest;
      digest_sound = sound_digest;
      header-first = load-header;
      header-shape = header_of;
      form-length = bytes_count;
      load-refused = load_kept;
      store-refused = store_kept;
    }
