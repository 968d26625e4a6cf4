-- Storing and loading: document 02, 2.2.
use Rattle.std.specs.Prelude.{ℕ, zero, suc, Bool, ◌&&◌, cond, not, List, [], ◌∷◌, ◌++◌, ltb, drop, length}
use Rattle.stand.specs.Opening.{Opening, open_rules, opening_of, shape_rules}
use Rattle.stand.specs.Refusal.{Answer, ◌⇒◌, answer, first, gives, list_rules, refused}
use Rattle.stand.specs.Shape.{shape_of}
use Rattle.stand.specs.Storage.{Lengths, Storage, lengths_of, volume_of}
use Rattle.stand.specs.declared.volume.Volume.{Volume}
use Rattle.form.specs.Entries.{entries_of, loaded_storage}
use Rattle.form.specs.Form.{count_in, entries_in, form_of, has_head, head_shape, valid}

-- ---- loading: an opening

-- what 14 asks: a head, and all after it; whether a stand of its origin and size opens is asked by 1 and 2
unfoldable pub is_form : List ℕ → Bool
is_form f = has_head f && valid (head_shape f) f

-- 14 after 1, 2 and 4 on the stored size, which apply only where a whole kind 1 comes first with sizes of 1 or more
unfoldable pub load_refusal : List ℕ → Lengths → ℕ
load_refusal f l = first (cond (has_head f) (open_rules (head_shape f) l) [] ++ (not (is_form f) ⇒ 14) ∷ [])

unfoldable pub loaded : ℕ → Storage → List ℕ → Opening
loaded zero s f = opening_of (gives (volume_of (head_shape f) 0 (count_in f))) (loaded_storage (head_shape f) (entries_in f))
loaded (suc n) s f = opening_of (refused (suc n)) s

unfoldable pub load_call : Storage → List ℕ → Opening
load_call s f = loaded (load_refusal f (lengths_of s)) s f

-- the header that loading gives, before storage is looked at
unfoldable pub stored_header : List ℕ → Answer Volume
stored_header f =
    answer (first (cond (has_head f) (shape_rules (head_shape f)) [] ++ (not (is_form f) ⇒ 14) ∷ [])) (volume_of (head_shape f) 0 (count_in f))

-- ---- storing

-- the form of a stand: of its header the origin and the size alone
unfoldable pub stored_form : Volume → List ℕ → List ℕ
stored_form v cells = form_of (shape_of v) (entries_of (shape_of v) cells)

-- its length, for a caller who is to lend an output
unfoldable pub stored_length : Volume → List ℕ → Answer ℕ
stored_length v cells = answer (first (list_rules 4096 v (length cells))) (length (stored_form v cells))

-- what storing comes to: the form's length, and the output; a refusal leaves the output as it was
pub record Storing : Type 0 where
  pub answer : Answer ℕ
  pub out : List ℕ

abbrev pub storing_of : Answer ℕ → List ℕ → Storing
storing_of a o = record { answer = a; out = o }

-- bytes after the form keep
unfoldable pub stored : ℕ → List ℕ → List ℕ → Storing
stored zero form out = storing_of (gives (length form)) (form ++ drop (length form) out)
stored (suc n) form out = storing_of (refused (suc n)) out

-- 15, for an output shorter than the form, is last of all
unfoldable pub store_call : Volume → List ℕ → List ℕ → Storing
store_call v cells out =
    stored
    (first (list_rules 4096 v (length cells) ++ (ltb (length out) (length (stored_form v cells)) ⇒ 15) ∷ []))
    (stored_form v cells) out
