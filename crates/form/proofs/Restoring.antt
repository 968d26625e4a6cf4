-- A stand stored and loaded again.
use mathlib.Core.Path.{◌≡◌, refl, sym, ap, ◌∙◌, subst}
use mathlib.Core.List.{List}
use mathlib.Core.Bool.{true}
use Prim.Native.Nat.{ℕ, ◌*◌}
use lib.ListN.{length, length-replicate, replicate}
use Rattle.stand.specs.Edit.{fitting, look}
use Rattle.stand.specs.Opening.{opening_of}
use Rattle.stand.specs.Refusal.{gives}
use Rattle.stand.specs.Shape.{sections, shape_of, slot}
use Rattle.stand.specs.Sound.{Sound, occupied}
use Rattle.stand.specs.Storage.{Storage, lengths_of, storage_fits, volume_of}
use Rattle.stand.specs.declared.volume.Volume.{Volume}
use Rattle.stand.proofs.Kept.{solid_exact}
use Rattle.stand.proofs.Shape.{slot_lt}
use Rattle.form.specs.Calls.{load_call, stored_form}
use Rattle.form.specs.Entries.{entries_of, inside_at, loaded_state, loaded_storage, placed}
use Rattle.form.specs.Keeping.{Restored, Storable}
use Rattle.form.proofs.Answers.{load_is}
use Rattle.form.proofs.Entries.{placed-length}
use Rattle.form.proofs.Loaded.{loaded_sound}
use Rattle.form.proofs.OwnEntries.{asc_of, own_of, store-load}
use Rattle.form.proofs.Same.{kept-look}
use Rattle.form.proofs.Stored.{storable_opens, stored-count, stored-list, stored_passes, stored-shape}

module _ (v : Volume) (cells : List ℕ) (k : Storable v cells) where
  sound_again : Sound (loaded_state (shape_of v) (entries_of (shape_of v) cells))
  sound_again =
      let o = storable_opens v cells k in
      loaded_sound (shape_of v) (entries_of (shape_of v) cells) o (asc_of (shape_of v) cells o k.finishes) (own_of (shape_of v) cells o k.finishes)

  solid_again : length (entries_of (shape_of v) cells) ≡ occupied (placed (entries_of (shape_of v) cells) (replicate (sections (shape_of v) * 4096) 0)) (sections (shape_of v) * 4096)
  unfolding loaded_state loaded_storage volume_of
  solid_again =
      let n = sections (shape_of v) * 4096 in
      let es = entries_of (shape_of v) cells in
      solid_exact (loaded_state (shape_of v) es) sound_again
      ∙ ap (occupied (placed es (replicate n 0))) (placed-length es (replicate n 0) ∙ length-replicate {A = ℕ} n 0)

  restored_so : Restored v cells (opening_of (gives (volume_of (shape_of v) 0 (length (entries_of (shape_of v) cells)))) (loaded_storage (shape_of v) (entries_of (shape_of v) cells)))
  unfolding loaded_state loaded_storage fitting volume_of shape_of inside_at look
  restored_so =
      let o = storable_opens v cells k in
      record {
        header = ap (λ (n : ℕ). gives (volume_of (shape_of v) 0 n)) solid_again;
        fits = sound_again.fits;
        cells-inside = λ c h. store-load (shape_of v) cells o k.finishes (slot (shape_of v) c) (slot_lt (shape_of v) c o h) ∙ kept-look (shape_of v) cells c o h;
        others = sound_again.beyond;
        hashes = sound_again.hash;
        versions = refl;
        log = refl;
        last = refl;
      }

  pub restored : (s : Storage) → storage_fits (sections (shape_of v)) (lengths_of s) ≡ true → Restored v cells (load_call s (stored_form v cells))
  restored s h =
      let e = load_is s (stored_form v cells) (stored_passes v cells k (lengths_of s) h) in
      let g = stored-shape v cells k in
      let n = stored-count v cells k in
      let es = stored-list v cells k in
      subst (Restored v cells) (sym (e ∙ (λ i. opening_of (gives (volume_of (g i) 0 (n i))) (loaded_storage (g i) (es i))))) restored_so
