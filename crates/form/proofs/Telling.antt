-- What holds of a stand just loaded, by its form alone: it is sound, it is the fresh stand filled, and it is stored as the form.
use mathlib.Core.Path.{◌≡◌, refl, sym, ap, ◌∙◌, subst}
use mathlib.Core.Bool.{true}
use mathlib.Core.List.{List, [], ◌∷◌, ◌++◌}
use Prim.Native.Nat.{ℕ, ◌<◌, ◌≤◌}
use native.Mathlib.Omega.{arith}
use lib.Dec.{eqb}
use lib.ListN.{drop, length}
use Rattle.arith.specs.Bytes.{Bytes}
use Rattle.arith.specs.Level.{pattern_of}
use Rattle.stand.specs.Edit.{fitting}
use Rattle.stand.specs.Hash.{digest_of, digest_start, fold_words, shape_words}
use Rattle.stand.specs.Read.{digest_call}
use Rattle.stand.specs.Refusal.{gives}
use Rattle.stand.specs.Shape.{Shape, opens, shape_of}
use Rattle.stand.specs.Sound.{Sound}
use Rattle.stand.specs.Storage.{State, Storage, joined, lengths_of, storage, volume_of}
use Rattle.stand.specs.declared.volume.Volume.{Volume}
use Rattle.stand.proofs.Edit.{fitting-lengths}
use Rattle.stand.proofs.Tests.{by-test}
use Rattle.form.specs.Calls.{load_call, store_call, stored_form, storing_of}
use Rattle.form.specs.Entries.{Entry, digest_with, loaded_state, loaded_storage, lookup}
use Rattle.form.specs.Form.{entries_in, head_shape}
use Rattle.form.specs.Inner.{Asc, Each}
use Rattle.form.specs.Keeping.{Alike, Loaded, Storable, filled_from, last_digest}
use Rattle.form.proofs.Answers.{Answered, answered, store_is}
use Rattle.form.proofs.Digested.{digest_told}
use Rattle.form.proofs.Entries.{Own}
use Rattle.form.proofs.Filling.{filled-generation, loaded-filled}
use Rattle.form.proofs.Loaded.{loaded_sound, placed-own}
use Rattle.form.proofs.Loads.{loads_digest, loads_opens, loads_own, loads_ranged, loads_whole}
use Rattle.form.proofs.Reading.{Small}
use Rattle.form.proofs.Back.{load_store}
use Rattle.form.proofs.Stored.{stored-list, stored_loads, stored-shape}

lookup_small : (es : List Entry) → Each Small es → (j : ℕ) → lookup es j < 65536
unfolding lookup
lookup_small [] h j = omega arith
lookup_small (e ∷ es) h j = by-test (eqb j e.slot) (λ q. rw q h.0.finish) (λ q. rw q (lookup_small es h.1 j))

-- ---- digests

-- generation, versions, log and last changes are not in the digest
digest-alike : (s t : State) → Alike s t → digest_of s.volume s.hashes ≡ digest_of t.volume t.hashes
unfolding digest_of shape_words
digest-alike s t a =
    λ i. fold_words digest_start
    ((pattern_of (a.origin i).x ∷ pattern_of (a.origin i).y ∷ pattern_of (a.origin i).z
    ∷ pattern_of (a.chunks i).x ∷ pattern_of (a.chunks i).y ∷ pattern_of (a.chunks i).z
    ∷ pattern_of (a.size i).x ∷ pattern_of (a.size i).y ∷ pattern_of (a.size i).z ∷ []) ++ a.hashes i)

loaded-digest : (g : Shape) (es : List Entry) → digest_with g es ≡ digest_of (loaded_state g es).volume (loaded_state g es).hashes
unfolding digest_with loaded_state loaded_storage digest_of shape_words volume_of
loaded-digest g es = refl

-- ---- a load that is accepted

module _ (s : Storage) (f : List ℕ) (v : Volume) (b : Bytes f) (e : Loaded s f v) where
  an : Answered s f v
  an = answered s f v e

  opened : opens (head_shape f) ≡ true
  opened = loads_opens f (lengths_of s) b an.accepts

  own : Asc 0 (entries_in f) × Each (Own (head_shape f)) (entries_in f) × Each Small (entries_in f)
  own = loads_own f (lengths_of s) b an.accepts

  sound_so : Sound (loaded_state (head_shape f) (entries_in f))
  sound_so = loaded_sound (head_shape f) (entries_in f) opened own.0 own.1

  pub is_sound : Sound (joined v (load_call s f).storage)
  is_sound = subst Sound (sym an.state) sound_so

  alike_so : Alike (loaded_state (head_shape f) (entries_in f)) (filled_from f)
  alike_so = loaded-filled (head_shape f) (entries_in f) opened own.0 own.1

  pub is-filled : Alike (joined v (load_call s f).storage) (filled_from f) × ((filled_from f).volume.generation ≡ length (entries_in f))
  is-filled = (
    subst (λ (t : State). Alike t (filled_from f)) (sym an.state) alike_so,
    filled-generation (head_shape f) (entries_in f) opened own.0 own.1,
  )

  pub is-digest : last_digest f ≡ digest_of (filled_from f).volume (filled_from f).hashes
  is-digest =
      loads_digest f (lengths_of s) an.accepts
      ∙ loaded-digest (head_shape f) (entries_in f)
      ∙ digest-alike (loaded_state (head_shape f) (entries_in f)) (filled_from f) alike_so

  storable_so : Storable (loaded_state (head_shape f) (entries_in f)).volume (loaded_state (head_shape f) (entries_in f)).cells
  unfolding loaded_state loaded_storage volume_of
  storable_so =
      let g = head_shape f in
      let es = entries_in f in
      record {
        formed = sound_so.formed;
        fits = (fitting-lengths (loaded_state g es) sound_so.fits).cells;
        ranged = loads_ranged f (lengths_of s) b an.accepts;
        finishes = λ j. omega (arith, placed-own g es own.0 own.1 j, lookup_small es own.2 j);
      }

  form_so : stored_form (loaded_state (head_shape f) (entries_in f)).volume (loaded_state (head_shape f) (entries_in f)).cells ≡ f
  unfolding stored_form loaded_state loaded_storage volume_of shape_of
  form_so = load_store f b an.accepts.few (loads_whole f (lengths_of s) an.accepts)

  pub is-stored : Storable v (load_call s f).storage.cells × (stored_form v (load_call s f).storage.cells ≡ f)
  is-stored = subst (λ (t : State). Storable t.volume t.cells × (stored_form t.volume t.cells ≡ f)) (sym an.state) (storable_so, form_so)

  pub is-back : (out : List ℕ) → length f ≤ length out → store_call v (load_call s f).storage.cells out ≡ storing_of (gives (length f)) (f ++ drop (length f) out)
  is-back out h =
      let k = is-stored in
      let n = ap (λ (l : List ℕ). length l) k.1 in
      store_is v (load_call s f).storage.cells out k.0 (omega (arith, n, h))
      ∙ ap (λ (l : List ℕ). storing_of (gives (length l)) (l ++ drop (length l) out)) k.1

-- ---- a sound stand's form ends with what `digest` answers

pub sound_digest : (s : State) → Sound s → Storable s.volume s.cells → digest_call s.volume s.hashes ≡ gives (last_digest (stored_form s.volume s.cells))
unfolding fitting
sound_digest s q k =
    let f = stored_form s.volume s.cells in
    let l = loads_digest f (lengths_of (storage s)) (stored_loads s.volume s.cells k (lengths_of (storage s)) q.fits) in
    let g = stored-shape s.volume s.cells k in
    let es = stored-list s.volume s.cells k in
    digest_told s q k.finishes ∙ ap gives (sym (l ∙ (λ i. digest_with (g i) (es i))))
