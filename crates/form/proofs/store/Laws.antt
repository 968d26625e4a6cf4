-- Storing, as the code does it: the whole form, and the calls.
use Rattle.std.proofs.Common.{◌≡◌, ℕ, zero, suc, ◌+◌, ◌-◌, ◌*◌, ◌/◌, ◌<◌, ◌≤◌, true, Result, List, [], ◌∷◌, ◌++◌, drop, length, ltb, sym, refl, ap, ◌∙◌, append_assoc, arith, length-append, le-ltb, lt-ltb}
use lib.Seq.{sets, length-sets, sets-eq}
use Rattle.std.specs.Result.{IsErrAnd}
use Rattle.stand.specs.Answer.{answer_of, refusal_number}
use Rattle.stand.specs.Refusal.{◌⇒◌, first, gives, list_rules, refused}
use Rattle.stand.specs.Shape.{sections, shape_of, well_formed}
use Rattle.stand.specs.declared.volume.Volume.{Volume}
use Rattle.stand.specs.declared.volume.refusal.Refusal.{Refusal}
use Rattle.stand.proofs.Kept.{Finishes}
use Rattle.stand.proofs.Refusal.{begun, exit_is, first_rest, numbered, some_number}
use Rattle.stand.proofs.Shape.{formed-opens, sections-few}
use Rattle.form.specs.Calls.{store_call, stored, stored_form, storing_of}
use Rattle.form.specs.Entries.{digest_with, entries_of, kept_at}
use Rattle.form.specs.Form.{entries_at, entries_bytes, form_of, head_bytes, tail_bytes}
use Rattle.form.specs.Inner.{Ordered, Written, record_at}
use Rattle.form.proofs.Entries.{Own, each_so}
use Rattle.form.proofs.OwnEntries.{asc_of, own_of, small_of}
use Rattle.form.proofs.Reading.{entries_back, entries_length, form-length, head_length}
use Rattle.form.proofs.put.Laws.{sets_append}
use Rattle.form.proofs.store.Slots.{count-few}

-- ---- lengths

few_records : (v : Volume) (cells : List ℕ) → well_formed v ≡ true → length (entries_of (shape_of v) cells) ≤ 268435456
unfolding entries_of
few_records v cells ok = omega (arith, count-few (kept_at (shape_of v) cells) (sections (shape_of v) * 4096) 0, sections-few (shape_of v) (formed-opens v ok))

pub form_long : (v : Volume) (cells : List ℕ) → 34 ≤ length (stored_form v cells)
unfolding stored_form
form_long v cells = omega (arith, form-length (shape_of v) (entries_of (shape_of v) cells))

module _ (v : Volume) (cells : List ℕ) {old out : List ℕ} {at : ℕ} (w : Written old out 25 (entries_of (shape_of v) cells) at) where
  pub place_small : well_formed v ≡ true → at ≤ 1879048217
  place_small ok = omega (arith, w.place, entries_length (entries_of (shape_of v) cells), few_records v cells ok)

  pub length_is : at + 9 ≡ length (stored_form v cells)
  unfolding stored_form
  length_is = omega (arith, w.place, form-length (shape_of v) (entries_of (shape_of v) cells), entries_length (entries_of (shape_of v) cells))

  pub count_is : (at - 25) / 7 ≡ length (entries_of (shape_of v) cells)
  count_is = omega (arith, w.place, entries_length (entries_of (shape_of v) cells))

-- ---- the whole form

module _ (v : Volume) (cells out₀ : List ℕ) {a b : List ℕ} {at : ℕ} (room : length (stored_form v cells) ≤ length out₀)
    (ea : a ≡ sets out₀ 0 (head_bytes (shape_of v))) (w : Written a b 25 (entries_of (shape_of v) cells) at) where
  head_kept : length a ≡ length out₀
  head_kept = ap (λ (bs : List ℕ). length bs) ea ∙ length-sets out₀ 0 (head_bytes (shape_of v))

  front-written : b ≡ sets out₀ 0 (head_bytes (shape_of v) ++ entries_bytes (entries_of (shape_of v) cells))
  front-written =
      w.bytes (omega (arith, length_is v cells w, head_kept)) ∙ ap (λ (l : List ℕ). sets l 25 (entries_bytes (entries_of (shape_of v) cells))) ea
      ∙ sets_append (head_bytes (shape_of v)) (entries_bytes (entries_of (shape_of v) cells)) out₀ 0 25 (omega (arith, head_length (shape_of v)))

  pub front_kept : length b ≡ length out₀
  front_kept = ap (λ (bs : List ℕ). length bs) front-written ∙ length-sets out₀ 0 (head_bytes (shape_of v) ++ entries_bytes (entries_of (shape_of v) cells))

  front_length : 0 + length (head_bytes (shape_of v) ++ entries_bytes (entries_of (shape_of v) cells)) ≡ at
  front_length = omega (arith, length-append (head_bytes (shape_of v)) (entries_bytes (entries_of (shape_of v) cells)), head_length (shape_of v), w.place)

  front-list : b ≡ head_bytes (shape_of v) ++ (entries_bytes (entries_of (shape_of v) cells) ++ drop at out₀)
  front-list =
      let f = head_bytes (shape_of v) ++ entries_bytes (entries_of (shape_of v) cells) in
      front-written ∙ sets-eq f out₀ 0 (omega (arith, length_is v cells w, front_length)) ∙ ap (λ (j : ℕ). f ++ drop j out₀) front_length
      ∙ append_assoc (head_bytes (shape_of v)) (entries_bytes (entries_of (shape_of v) cells)) (drop at out₀)

  pub records_fit : record_at ((at - 25) / 7) ≤ length b
  records_fit = omega (arith, front_kept, count_is v cells w, length_is v cells w, w.place, entries_length (entries_of (shape_of v) cells))

  module _ (ok : well_formed v ≡ true) (small : Finishes cells) where
    pub records_back : entries_at b 25 ((at - 25) / 7) ≡ entries_of (shape_of v) cells
    records_back =
        (λ i. entries_at (front-list i) (sym (head_length (shape_of v)) i) (count_is v cells w i))
        ∙ entries_back (entries_of (shape_of v) cells) (head_bytes (shape_of v)) (drop at out₀) (small_of (shape_of v) cells (formed-opens v ok) small)

    pub records_ordered : Ordered (shape_of v) (entries_at b 25 ((at - 25) / 7))
    records_ordered =
        let o = formed-opens v ok in
        rw records_back
        (record { ascending = asc_of (shape_of v) cells o small; below = each_so (Own (shape_of v)) (λ e. e.slot < sections (shape_of v) * 4096) (λ e w. w.below) (entries_of (shape_of v) cells) (own_of (shape_of v) cells o small) })

    pub form_written : {d : ℕ} {r : List ℕ} → d ≡ digest_with (shape_of v) (entries_at b 25 ((at - 25) / 7)) → r ≡ sets b at (tail_bytes d) → r ≡ sets out₀ 0 (stored_form v cells)
    unfolding stored_form form_of
    form_written ed er =
        let es = entries_of (shape_of v) cells in
        er ∙ (λ i. sets (front-written i) at (tail_bytes ((ed ∙ ap (digest_with (shape_of v)) records_back) i)))
        ∙ sets_append (head_bytes (shape_of v) ++ entries_bytes es) (tail_bytes (digest_with (shape_of v) es)) out₀ 0 at (sym front_length)
        ∙ ap (sets out₀ 0) (append_assoc (head_bytes (shape_of v)) (entries_bytes es) (tail_bytes (digest_with (shape_of v) es)))

-- ---- the call

not_stored : (m : ℕ) (form out : List ℕ) → (m ≡ 0 → ⊥) → storing_of (refused m) out ≡ stored m form out
unfolding stored
not_stored zero form out h = absurd (h refl)
not_stored (suc m) form out h = refl

module _ (v : Volume) (cells out : List ℕ) where
  -- refused by the header or the cells
  pub store_turned : (e : Refusal) (x : Result ℕ Refusal) → refusal_number e ≡ first (list_rules 4096 v (length cells)) → IsErrAnd x (λ d. d ≡ e) → storing_of (answer_of x) out ≡ store_call v cells out
  unfolding store_call
  store_turned e x q h =
      ap (λ (y : Result ℕ Refusal). storing_of (answer_of y) out) (exit_is e x h) ∙ not_stored _ (stored_form v cells) out (some_number e)
      ∙ ap (λ (m : ℕ). stored m (stored_form v cells) out) (begun e (list_rules 4096 v (length cells)) _ q)

  module _ (z : 0 ≡ first (list_rules 4096 v (length cells))) where
    rest : first (list_rules 4096 v (length cells) ++ ((ltb (length out) (length (stored_form v cells)) ⇒ 15) ∷ [])) ≡ first ((ltb (length out) (length (stored_form v cells)) ⇒ 15) ∷ [])
    unfolding numbered
    rest = first_rest (list_rules 4096 v (length cells)) _ refl (sym z)

    pub store_short : length out < length (stored_form v cells) → storing_of (refused 15) out ≡ store_call v cells out
    unfolding store_call stored first
    store_short h = rw rest (rw (lt-ltb (length out) (length (stored_form v cells)) h))

    pub store_done : {n : ℕ} {r : List ℕ} → length (stored_form v cells) ≤ length out → n ≡ length (stored_form v cells) → r ≡ sets out 0 (stored_form v cells) → storing_of (gives n) r ≡ store_call v cells out
    unfolding store_call stored first
    store_done h en er =
        let m : 0 + length (stored_form v cells) ≡ length (stored_form v cells) = omega arith in
        rw rest
        (rw (le-ltb (length out) (length (stored_form v cells)) h)
        (λ i. storing_of (gives (en i)) ((er ∙ sets-eq (stored_form v cells) out 0 (omega arith) ∙ ap (λ (j : ℕ). stored_form v cells ++ drop j out) m) i)))
