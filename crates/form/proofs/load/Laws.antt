-- Loading, as the code does it: the head, records put in one after the other, and the calls below it.
use Rattle.std.proofs.Common.{◌≡◌, ℕ, zero, suc, ◌+◌, ◌-◌, ◌*◌, ◌/◌, ◌%◌, ◌<◌, ◌≤◌, max, Bool, true, false, not, ◌&&◌, cond, Some, None, Result, List, [], ◌∷◌, ◌++◌, length, get_or, set, sym, refl, ap, ◌∙◌, subst, append_assoc, arith, length-set}
use borrow.Author.Tests.{not-false}
use lib.ListN.{length-replicate}
use Rattle.std.specs.Result.{IsErrAnd}
use Rattle.arith.specs.Bytes.{signed_at}
use Rattle.arith.specs.Level.{count_of}
use Rattle.stand.specs.Answer.{answer_of, refusal_number}
use Rattle.stand.specs.Edit.{toggled}
use Rattle.stand.specs.Opening.{Opening, header_call, open_call, opened_shape, opening_of, shape_rules, size_on, sizes_of}
use Rattle.stand.specs.Refusal.{Answer, Rule, ◌⇒◌, answer, first, gives, refused}
use Rattle.stand.specs.Shape.{Shape, point_of, sections, shape_of, well_formed}
use Rattle.stand.specs.Storage.{Storage, fresh_storage, lengths_of, storage_fits, storage_of, storage_rules, volume_of}
use Rattle.stand.specs.declared.volume.Volume.{Volume}
use Rattle.stand.specs.declared.volume.refusal.Refusal.{Refusal}
use Rattle.stand.proofs.Opened.{anew, formed-opened, same-volume}
use Rattle.stand.proofs.Opening.{given-formed, open_done, volume-shape}
use Rattle.stand.proofs.Refusal.{accepted, begun, exit_is, exits, first_rest, given_by, numbered, passes, refused_by, some_number}
use Rattle.stand.proofs.Storage.{zeros_fresh}
use Rattle.form.specs.Calls.{is_form, load_call, load_refusal, loaded, stored_header}
use Rattle.form.specs.Entries.{Entry, entry_of, loaded_storage, mixed, placed}
use Rattle.form.specs.Form.{count_in, entries_at, entries_in, entry_in, has_head, head_shape, valid}
use Rattle.form.specs.Inner.{Each, Ordered, Roomy, cell_in, extent_in, head_in, head_of, head_rules, record_at, record_in, slot_of}
use Rattle.form.proofs.check.Laws.{Headed, headed, ordered, valid_parts}
use Rattle.form.specs.declared.head.Head.{Head}
use Rattle.form.specs.declared.record.Record.{Record}

-- ---- the head

size_same : (n : ℕ) → 1 ≤ n → max 1 n ≡ n
size_same n h = omega arith

head_opened : (f : List ℕ) → Headed f → opened_shape (cell_in f 1) (extent_in f 13) ≡ head_shape f
unfolding opened_shape sizes_of size_on head_shape
head_opened f h = λ i. record { origin = cell_in f 1; size = point_of (size_same (count_of (signed_at f 13)) h.x i) (size_same (count_of (signed_at f 17)) h.y i) (size_same (count_of (signed_at f 21)) h.z i) }

pub head_none : (f : List ℕ) → head_in f ≡ None → first (head_rules f) ≡ 14
unfolding head_in head_rules first
head_none f e = by (has_head f) e
  where
    by : (t : Bool) → cond t (Some (head_of f)) None ≡ None → first (cond t (shape_rules (head_shape f)) ((true ⇒ 14) ∷ [])) ≡ 14
    by true e = cc
    by false e = refl

module _ (f : List ℕ) {h : Head} (e : head_in f ≡ Some h) where
  given : (has_head f ≡ true) × (h ≡ head_of f)
  unfolding head_in
  given = by (has_head f) refl e
    where
      by : (t : Bool) → has_head f ≡ t → cond t (Some (head_of f)) None ≡ Some h → (has_head f ≡ true) × (h ≡ head_of f)
      by true q p = (q, (cc))
      by false q p = absurd (cc)

  call_is : header_call h.origin h.size ≡ answer (first (head_rules f)) (volume_of (head_shape f) 0 0)
  unfolding header_call head_rules
  call_is =
      rw given.0
      (ap (λ (k : Head). header_call k.origin k.size) given.1
      ∙ ap (λ (g : Shape). answer (first (shape_rules g)) (volume_of g 0 0)) (head_opened f (headed f given.0)))

  pub head_turned : {n : ℕ} → refused n ≡ header_call h.origin h.size → n ≡ first (head_rules f)
  head_turned p = (refused_by _ _ _ (p ∙ call_is)).1

  module _ {v : Volume} (p : gives v ≡ header_call h.origin h.size) where
    pub head_passes : first (head_rules f) ≡ 0
    head_passes = (given_by _ _ _ (p ∙ call_is)).0

    pub head_volume : v ≡ volume_of (head_shape f) 0 0
    head_volume = (given_by _ _ _ (p ∙ call_is)).1

    pub head_formed : well_formed v ≡ true
    head_formed = given-formed h.origin h.size p

-- ---- records put in one after the other

-- cells c and hashes h with records below k put in, from c₀ and h₀
pub record Puts (f : List ℕ) (n : ℕ) (c₀ h₀ : List ℕ) (k : ℕ) (c h : List ℕ) : Type 0 where
  pub cells : placed (entries_at f (record_at k) (n - k)) c ≡ placed (entries_at f 25 n) c₀
  pub hashes : mixed (entries_at f (record_at k) (n - k)) h ≡ mixed (entries_at f 25 n) h₀
  pub room : Roomy (length c) (length h) (entries_at f (record_at k) (n - k))

pub puts_none : (f : List ℕ) (n : ℕ) (c h : List ℕ) → Roomy (length c) (length h) (entries_at f 25 n) → Puts f n c h 0 c h
puts_none f n c h r =
    let z : n - 0 ≡ n = omega arith in
    record {
      cells = ap (λ (m : ℕ). placed (entries_at f 25 m) c) z;
      hashes = ap (λ (m : ℕ). mixed (entries_at f 25 m) h) z;
      room = subst (λ (m : ℕ). Roomy (length c) (length h) (entries_at f 25 m)) (sym z) r;
    }

module _ {f : List ℕ} {n : ℕ} {c₀ h₀ : List ℕ} {k : ℕ} {c h : List ℕ} (p : Puts f n c₀ h₀ k c h) where
  pub puts_all : n ≤ k → (c ≡ placed (entries_at f 25 n) c₀) × (h ≡ mixed (entries_at f 25 n) h₀)
  unfolding placed mixed entries_at
  puts_all l =
      let z : n - k ≡ 0 = omega arith in
      (ap (λ (m : ℕ). placed (entries_at f (record_at k) m) c) (sym z) ∙ p.cells, ap (λ (m : ℕ). mixed (entries_at f (record_at k) m) h) (sym z) ∙ p.hashes)

  module _ (l : k < n) where
    rest-is : entries_at f (record_at k) (n - k) ≡ entry_in f (record_at k) ∷ entries_at f (record_at (k + 1)) (n - (k + 1))
    unfolding entries_at
    rest-is =
        let s : n - k ≡ suc (n - (k + 1)) = omega arith in
        let q : record_at k + 7 ≡ record_at (k + 1) = omega arith in
        ap (entries_at f (record_at k)) s ∙ ap (λ (a : ℕ). entry_in f (record_at k) ∷ entries_at f a (n - (k + 1))) q

    room-is : Roomy (length c) (length h) (entry_in f (record_at k) ∷ entries_at f (record_at (k + 1)) (n - (k + 1)))
    room-is = subst (Roomy (length c) (length h)) rest-is p.room

    module _ {r : Record} (e : r ≡ record_in f (record_at k)) where
      entry_is : entry_in f (record_at k) ≡ entry_of (slot_of r) r.finish
      unfolding entry_in
      entry_is = ap (λ (q : Record). entry_of (slot_of q) q.finish) (sym e)

      pub put_cell : slot_of r < length c
      put_cell = rw entry_is at room-is.0.0

      pub put_hash : slot_of r / 4096 < length h
      put_hash = rw entry_is at room-is.0.1

      pub puts_more : {s x : ℕ} → s ≡ slot_of r → x ≡ toggled (s % 4096) r.finish (get_or h (s / 4096) 0) → Puts f n c₀ h₀ (k + 1) (set c s r.finish) (set h (s / 4096) x)
      unfolding placed mixed
      puts_more {s} {x} es ex =
          let rest = entries_at f (record_at (k + 1)) (n - (k + 1)) in
          let d = rest-is ∙ (λ i. entry_is i ∷ rest) in
          record {
            cells = (λ i. placed rest (set c (es i) r.finish)) ∙ ap (λ (l : List Entry). placed l c) (sym d) ∙ p.cells;
            hashes = ap (λ (y : ℕ). mixed rest (set h (s / 4096) y)) ex
                ∙ (λ i. mixed rest (set h (es i / 4096) (toggled (es i % 4096) r.finish (get_or h (es i / 4096) 0))))
                ∙ ap (λ (l : List Entry). mixed l h) (sym d) ∙ p.hashes;
            room = subst (λ (m : ℕ). Roomy m (length (set h (s / 4096) x)) rest) (sym (length-set c s r.finish)) (subst (λ (m : ℕ). Roomy (length c) m rest) (sym (length-set h (s / 4096) x)) room-is.1);
          }

-- ---- all lists zeroed, then the records put in

module _ (v : Volume) (s : Storage) (ok : well_formed v ≡ true) (fit : storage_fits (sections (shape_of v)) (lengths_of s) ≡ true) {r : Answer Volume} {t : Storage}
    (e : opening_of r t ≡ open_call s v.origin v.size) where
  passed : 0 ≡ first (storage_rules (anew v) (lengths_of s))
  unfolding first well_formed shape_of
  passed = rw (ok, fit)

  anew_opened : opening_of r t ≡ opening_of (gives (anew v)) (fresh_storage (sections (shape_of v)))
  anew_opened =
      e ∙ sym (open_done v.origin v.size (sym (formed-opened v ok)) s passed refl)
      ∙ ap (opening_of (gives (anew v))) (zeros_fresh (sections (shape_of v)) (lengths_of s) fit)

  pub opened_anew : r ≡ gives (anew v)
  opened_anew = ap (λ (o : Opening). o.answer) anew_opened

  pub zeroed : t ≡ fresh_storage (sections (shape_of v))
  zeroed = ap (λ (o : Opening). o.storage) anew_opened

each-room : (n c h : ℕ) (es : List Entry) → c ≡ n * 4096 → h ≡ n → Each (λ e. e.slot < n * 4096) es → Roomy c h es
each-room n c h [] ec eh b = tt
each-room n c h (e ∷ es) ec eh b = ((omega (arith, b.0), omega (arith, b.0)), each-room n c h es ec eh b.1)

pub roomy : (g : Shape) (es : List Entry) {t : Storage} → Ordered g es → t ≡ fresh_storage (sections g) → Roomy (length t.cells) (length t.hashes) es
unfolding fresh_storage
roomy g es {t} o e =
    each-room (sections g) (length t.cells) (length t.hashes) es
    (ap (λ (s : Storage). length s.cells) e ∙ length-replicate {A = ℕ} (sections g * 4096) 0)
    (ap (λ (s : Storage). length s.hashes) e ∙ length-replicate {A = ℕ} (sections g) 0) o.below

pub written : (g : Shape) (es : List Entry) (t : Storage) {c h : List ℕ} → t ≡ fresh_storage (sections g) → c ≡ placed es t.cells → h ≡ mixed es t.hashes
    → storage_of c h t.versions t.log t.last ≡ loaded_storage g es
unfolding fresh_storage loaded_storage
written g es t e ec eh =
    (λ i. storage_of (ec i) (eh i) t.versions t.log t.last)
    ∙ ap (λ (s : Storage). storage_of (placed es s.cells) (mixed es s.hashes) s.versions s.log s.last) e

-- the header that opening gave, with its count, and the lists after it
pub filled : (v : Volume) (es : List Entry) (n : ℕ) (t : Storage) {w : Volume} {c h : List ℕ} → well_formed v ≡ true → gives w ≡ gives (anew v) → t ≡ fresh_storage (sections (shape_of v))
    → c ≡ placed es t.cells → h ≡ mixed es t.hashes
    → opening_of (gives (record { origin = w.origin; chunks = w.chunks; size = w.size; generation = w.generation; solid = n })) (storage_of c h t.versions t.log t.last)
    ≡ opening_of (gives (volume_of (shape_of v) 0 n)) (loaded_storage (shape_of v) es)
unfolding volume_of
filled v es n t {w} ok q e ec eh =
    let a : w ≡ volume_of (shape_of v) 0 0 = (cc) ∙ sym (same-volume v ok) in
    (λ i. opening_of (gives (record { origin = (a i).origin; chunks = (a i).chunks; size = (a i).size; generation = (a i).generation; solid = n })) (written (shape_of v) es t e ec eh i))

-- ---- the tables, begun by the head's rules

not_loaded : (m : ℕ) (s : Storage) (f : List ℕ) → (m ≡ 0 → ⊥) → opening_of (refused m) s ≡ loaded m s f
unfolding loaded
not_loaded zero s f h = absurd (h refl)
not_loaded (suc m) s f h = refl

-- an exit by `?` under the number that the whole call has
exit_load : (s : Storage) (f : List ℕ) (e : Refusal) (x : Result Volume Refusal) → IsErrAnd x (λ d. d ≡ e) → refusal_number e ≡ load_refusal f (lengths_of s)
    → opening_of (answer_of x) s ≡ load_call s f
unfolding load_call
exit_load s f e x h q =
    ap (λ (y : Result Volume Refusal). opening_of (answer_of y) s) (exit_is e x h)
    ∙ not_loaded _ s f (some_number e) ∙ ap (λ (m : ℕ). loaded m s f) q

table : (t v : Bool) (rs qs : List Rule) → first (cond t (rs ++ qs) [] ++ (not (t && v) ⇒ 14) ∷ []) ≡ first (cond t rs ((true ⇒ 14) ∷ []) ++ (qs ++ (not v ⇒ 14) ∷ []))
unfolding first
table true v rs qs = ap first (append_assoc rs qs ((not v ⇒ 14) ∷ []))
table false v rs qs = refl

module _ (f : List ℕ) where
  head_numbered : numbered (head_rules f) ≡ true
  unfolding numbered head_rules
  head_numbered = by (has_head f)
    where
      by : (t : Bool) → numbered (cond t (shape_rules (head_shape f)) ((true ⇒ 14) ∷ [])) ≡ true
      by true = refl
      by false = refl

  stored_table : stored_header f ≡ answer (first (head_rules f ++ ((not (valid (head_shape f) f) ⇒ 14) ∷ []))) (volume_of (head_shape f) 0 (count_in f))
  unfolding stored_header is_form head_rules
  stored_table = ap (λ (m : ℕ). answer m (volume_of (head_shape f) 0 (count_in f))) (table (has_head f) (valid (head_shape f) f) (shape_rules (head_shape f)) [])

  load_table : (s : Storage)
      → load_refusal f (lengths_of s) ≡ first (head_rules f ++ ((not (storage_fits (sections (head_shape f)) (lengths_of s)) ⇒ 4) ∷ (not (valid (head_shape f) f) ⇒ 14) ∷ []))
  unfolding load_refusal is_form head_rules
  load_table s =
      table (has_head f) (valid (head_shape f) f) (shape_rules (head_shape f)) ((not (storage_fits (sections (head_shape f)) (lengths_of s)) ⇒ 4) ∷ [])

  -- ---- refused by the head

  module _ (e : Refusal) (x : Result Volume Refusal) (q : refusal_number e ≡ first (head_rules f)) (h : IsErrAnd x (λ d. d ≡ e)) where
    pub stored_head : answer_of x ≡ stored_header f
    stored_head = rw stored_table (exits e x _ h (begun e (head_rules f) _ q))

    pub load_head : (s : Storage) → opening_of (answer_of x) s ≡ load_call s f
    load_head s = exit_load s f e x h (begun e (head_rules f) _ q ∙ sym (load_table s))

-- ---- a head that passes

valid_true : (b : Bool) → ◌≡◌ {A = ℕ} 0 (cond b 0 14) → b ≡ true
valid_true true e = refl
valid_true false e = absurd (omega arith)

one_rule : (b : Bool) → first ((not b ⇒ 14) ∷ []) ≡ cond b 0 14
unfolding first
one_rule true = refl
one_rule false = refl

module _ (f : List ℕ) {v : Volume} (z : 0 ≡ first (head_rules f)) (ev : v ≡ volume_of (head_shape f) 0 0) where
  shape_is : head_shape f ≡ shape_of v
  shape_is = sym (ap shape_of ev ∙ volume-shape (head_shape f) 0 0)

  with_count : (n : ℕ) → n ≡ count_in f → record { origin = v.origin; chunks = v.chunks; size = v.size; generation = v.generation; solid = n } ≡ volume_of (head_shape f) 0 (count_in f)
  unfolding volume_of
  with_count n en = λ i. record { origin = (ev i).origin; chunks = (ev i).chunks; size = (ev i).size; generation = (ev i).generation; solid = en i }

  pub valid_ordered : {n : ℕ} {g : List ℕ} → g ≡ f → ◌≡◌ {A = ℕ} 0 (cond (valid (shape_of v) f) 0 14) → n ≡ count_in f → Ordered (shape_of v) (entries_at g 25 n)
  valid_ordered e q en = rw (e, en) (ordered (shape_of v) f _ (valid_parts (shape_of v) f (valid_true _ q)).good)

  -- ---- the header alone

  stored_rest : first (head_rules f ++ ((not (valid (head_shape f) f) ⇒ 14) ∷ [])) ≡ cond (valid (shape_of v) f) 0 14
  stored_rest = first_rest (head_rules f) _ (head_numbered f) (sym z) ∙ one_rule _ ∙ ap (λ (g : Shape). cond (valid g f) 0 14) shape_is

  pub stored_bad : (e : Refusal) (x : Result Volume Refusal) → refusal_number e ≡ cond (valid (shape_of v) f) 0 14 → IsErrAnd x (λ d. d ≡ e) → answer_of x ≡ stored_header f
  stored_bad e x q h = rw stored_table (exits e x _ h (q ∙ sym stored_rest))

  pub stored_done : {n : ℕ} → ◌≡◌ {A = ℕ} 0 (cond (valid (shape_of v) f) 0 14) → n ≡ count_in f
      → gives (record { origin = v.origin; chunks = v.chunks; size = v.size; generation = v.generation; solid = n }) ≡ stored_header f
  stored_done {n} q en = ap gives (with_count n en) ∙ accepted _ (stored_rest ∙ sym q) ∙ sym (stored_table f)

  -- ---- with storage

  module _ (s : Storage) (ok : well_formed v ≡ true) where
    load_rest : load_refusal f (lengths_of s) ≡ first ((not (storage_fits (sections (shape_of v)) (lengths_of s)) ⇒ 4) ∷ (not (valid (shape_of v) f) ⇒ 14) ∷ [])
    load_rest =
        load_table f s ∙ first_rest (head_rules f) _ (head_numbered f) (sym z)
        ∙ ap (λ (g : Shape). first ((not (storage_fits (sections g) (lengths_of s)) ⇒ 4) ∷ (not (valid g f) ⇒ 14) ∷ [])) shape_is

    rules_are : first (storage_rules v (lengths_of s)) ≡ first ((not (storage_fits (sections (shape_of v)) (lengths_of s)) ⇒ 4) ∷ [])
    unfolding first
    rules_are = rw ok

    pub load_short : (e : Refusal) (x : Result Volume Refusal) → refusal_number e ≡ first (storage_rules v (lengths_of s)) → IsErrAnd x (λ d. d ≡ e)
        → opening_of (answer_of x) s ≡ load_call s f
    load_short e x q h = exit_load s f e x h (begun e ((not (storage_fits (sections (shape_of v)) (lengths_of s)) ⇒ 4) ∷ []) _ (q ∙ rules_are) ∙ sym load_rest)

    module _ (p : 0 ≡ first (storage_rules v (lengths_of s))) where
      pub load_fits : storage_fits (sections (shape_of v)) (lengths_of s) ≡ true
      load_fits = not-false _ (passes _ 3 [] (sym (p ∙ rules_are))).0

      last_rest : load_refusal f (lengths_of s) ≡ cond (valid (shape_of v) f) 0 14
      unfolding first
      last_rest = load_rest ∙ rw load_fits (one_rule (valid (shape_of v) f))

      pub load_bad : (e : Refusal) (x : Result Volume Refusal) → refusal_number e ≡ cond (valid (shape_of v) f) 0 14 → IsErrAnd x (λ d. d ≡ e)
          → opening_of (answer_of x) s ≡ load_call s f
      load_bad e x q h = exit_load s f e x h (q ∙ sym last_rest)

      pub load_done : {n : ℕ} {o : Opening} → ◌≡◌ {A = ℕ} 0 (cond (valid (shape_of v) f) 0 14) → n ≡ count_in f
          → o ≡ opening_of (gives (volume_of (shape_of v) 0 n)) (loaded_storage (shape_of v) (entries_at f 25 n)) → o ≡ load_call s f
      unfolding load_call loaded entries_in
      load_done {n} q en e =
          e ∙ (λ i. opening_of (gives (volume_of (sym shape_is i) 0 (en i))) (loaded_storage (sym shape_is i) (entries_at f 25 (en i))))
          ∙ ap (λ (m : ℕ). loaded m s f) (q ∙ sym last_rest)
