-- What an answer tells of the call that gave it.
use Rattle.stand.proofs.Opening.{volume-shape}
use mathlib.Core.Path.{◌≡◌, refl, sym, ap, ◌∙◌}
use mathlib.Core.Bool.{Bool, true, false, cond, not}
use mathlib.Core.List.{List, [], ◌∷◌, ◌++◌}
use Prim.Native.Nat.{ℕ, zero, suc, ◌*◌, ◌≤◌, ◌<◌}
use borrow.Author.Tests.{eq-eqb, le-ltb, lt-ltb}
use lib.Dec.{ltb}
use lib.ListN.{drop, length, take}
use lib.Seq.{take-append_seam}
use Rattle.stand.specs.Opening.{Opening, open_rules, opening_of, shape_rules}
use Rattle.stand.specs.Refusal.{Rule, ◌⇒◌, answer, first, gives, list_rules, refused}
use Rattle.stand.specs.Shape.{Shape, sections, shape_of}
use Rattle.stand.specs.Storage.{Lengths, Storage, joined, lengths_of, storage_fits, volume_of}
use Rattle.stand.specs.declared.volume.Volume.{Volume}
use Rattle.stand.proofs.Refusal.{never_given, given_by}
use Rattle.form.specs.Calls.{is_form, load_call, load_refusal, loaded, store_call, stored, stored_form, stored_header, storing_of, stored_length}
use Rattle.form.specs.Entries.{loaded_state, loaded_storage}
use Rattle.form.specs.Form.{count_in, entries_in, has_head, head_shape}
use Rattle.form.specs.Keeping.{Loaded, Storable}
use Rattle.form.proofs.Loads.{Loads, count_entries, loads}

-- ---- loading

pub load_is : (s : Storage) (f : List ℕ) → load_refusal f (lengths_of s) ≡ 0 → load_call s f ≡ opening_of (gives (volume_of (head_shape f) 0 (count_in f))) (loaded_storage (head_shape f) (entries_in f))
unfolding load_call loaded
load_is s f e = ap (λ (m : ℕ). loaded m s f) e

-- accepted: nothing refuses, and the stand is the one of the form's entries
pub record Answered (s : Storage) (f : List ℕ) (v : Volume) : Type 0 where
  pub accepts : Loads f (lengths_of s)
  pub state : joined v (load_call s f).storage ≡ loaded_state (head_shape f) (entries_in f)

pub answered : (s : Storage) (f : List ℕ) (v : Volume) → Loaded s f v → Answered s f v
unfolding load_call loaded loaded_state
answered s f v e = by (load_refusal f (lengths_of s)) refl e
  where
    by : (m : ℕ) → load_refusal f (lengths_of s) ≡ m → (loaded m s f).answer ≡ gives v → Answered s f v
    by zero z q =
        let p : v ≡ volume_of (head_shape f) 0 (count_in f) = cc in
        let w = p ∙ ap (volume_of (head_shape f) 0) (sym (count_entries f)) in
        let t = ap (λ (o : Opening). o.storage) (load_is s f z) in
        record { accepts = loads f (lengths_of s) z; state = λ i. joined (w i) (t i) }
    by (suc m) z q = absurd (never_given q)

-- refused: storage is as it was
pub load_kept : (s : Storage) (f : List ℕ) (n : ℕ) → (load_call s f).answer ≡ refused n → (load_call s f).storage ≡ s
unfolding load_call loaded
load_kept s f n = by (load_refusal f (lengths_of s))
  where
    by : (m : ℕ) → (loaded m s f).answer ≡ refused n → (loaded m s f).storage ≡ s
    by zero e = absurd (never_given (sym e))
    by (suc m) e = refl

-- on storage that fits, 4 does not apply
without_four : (t : Bool) (g : Shape) (l : Lengths) (rs : List Rule) → storage_fits (sections g) l ≡ true
    → first (cond t (open_rules g l) [] ++ rs) ≡ first (cond t (shape_rules g) [] ++ rs)
unfolding first
without_four true g l rs e = rw e
without_four false g l rs e = refl

pub load-header : (s : Storage) (f : List ℕ) → storage_fits (sections (head_shape f)) (lengths_of s) ≡ true → (load_call s f).answer ≡ stored_header f
unfolding load_call loaded load_refusal stored_header answer
load-header s f e =
    by (load_refusal f (lengths_of s))
    ∙ ap (λ (m : ℕ). answer m (volume_of (head_shape f) 0 (count_in f))) (without_four (has_head f) (head_shape f) (lengths_of s) ((not (is_form f) ⇒ 14) ∷ []) e)
  where
    by : (m : ℕ) → (loaded m s f).answer ≡ answer m (volume_of (head_shape f) 0 (count_in f))
    by zero = refl
    by (suc m) = refl

pub header_of : (f : List ℕ) (v : Volume) → stored_header f ≡ gives v → shape_of v ≡ head_shape f
unfolding stored_header
header_of f v e =
    ap shape_of (given_by (first (cond (has_head f) (shape_rules (head_shape f)) [] ++ (not (is_form f) ⇒ 14) ∷ [])) (volume_of (head_shape f) 0 (count_in f)) v (sym e)).1
    ∙ volume-shape (head_shape f) 0 (count_in f)

-- ---- storing

pub store_is : (v : Volume) (cells out : List ℕ) → Storable v cells → length (stored_form v cells) ≤ length out
    → store_call v cells out ≡ storing_of (gives (length (stored_form v cells))) (stored_form v cells ++ drop (length (stored_form v cells)) out)
unfolding store_call stored first
store_is v cells out k h =
    rw (k.formed, eq-eqb (length cells) (sections (shape_of v) * 4096) k.fits, le-ltb (length out) (length (stored_form v cells)) h)

pub store-none : (v : Volume) (cells out : List ℕ) → Storable v cells → length out < length (stored_form v cells) → store_call v cells out ≡ storing_of (refused 15) out
unfolding store_call stored first
store-none v cells out k h =
    rw (k.formed, eq-eqb (length cells) (sections (shape_of v) * 4096) k.fits, lt-ltb (length out) (length (stored_form v cells)) h)

pub length-is : (v : Volume) (cells : List ℕ) → Storable v cells → stored_length v cells ≡ gives (length (stored_form v cells))
unfolding stored_length first answer
length-is v cells k = rw (k.formed, eq-eqb (length cells) (sections (shape_of v) * 4096) k.fits)

-- the answer counts the form's bytes, which come first
pub store-front : (v : Volume) (cells out : List ℕ) (n : ℕ) → (store_call v cells out).answer ≡ gives n → take n (store_call v cells out).out ≡ stored_form v cells
unfolding store_call stored
store-front v cells out n = by (first (list_rules 4096 v (length cells) ++ (ltb (length out) (length (stored_form v cells)) ⇒ 15) ∷ [])) (stored_form v cells)
  where
    by : (m : ℕ) (form : List ℕ) → (stored m form out).answer ≡ gives n → take n (stored m form out).out ≡ form
    by zero form e =
        let q : n ≡ length form = cc in
        ap (λ (k : ℕ). take k (form ++ drop (length form) out)) q ∙ take-append_seam form (drop (length form) out)
    by (suc m) form e = absurd (never_given e)

-- refused: the output is as it was
pub store_kept : (v : Volume) (cells out : List ℕ) (n : ℕ) → (store_call v cells out).answer ≡ refused n → (store_call v cells out).out ≡ out
unfolding store_call stored
store_kept v cells out n = by (first (list_rules 4096 v (length cells) ++ (ltb (length out) (length (stored_form v cells)) ⇒ 15) ∷ []))
  where
    by : (m : ℕ) → (stored m (stored_form v cells) out).answer ≡ refused n → (stored m (stored_form v cells) out).out ≡ out
    by zero e = absurd (never_given (sym e))
    by (suc m) e = refl
