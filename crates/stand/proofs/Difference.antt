-- Two sound stands of one origin and size: a section's hash goes by its cells inside, and one cell off shows in it and in the digest.
use Rattle.std.proofs.Common.{◌≡◌, ℕ, zero, suc, ◌+◌, ◌*◌, ◌/◌, ◌%◌, ◌^◌, ◌<◌, ◌≤◌, Bool, true, false, cond, eqb, ltb, List, length, get_or, set, sym, refl, ap, ◌∙◌, subst, arith, get_or-set_other, get_or-set_same, ext_get_or, ltb-false, ltb-true, eq-eqb, eqb-true}
use borrow.Author.Tests.{eqb-false}
use lib.Bits.{bit_xor, xor_lt}
use lib.ListN.{get_or-eq_default}
use Rattle.arith.proofs.Xor.{xor_cancel, xor_cancel_l, xor_kept, xor_undo}
use Rattle.stand.specs.Edit.{hash_after, look, toggled}
use Rattle.stand.specs.Hash.{digest_of, digest_start, fold_words, shape_words, term_of}
use Rattle.stand.specs.Read.{digest_call, entry_call}
use Rattle.stand.specs.Refusal.{first, gives, list_rules, refused}
use Rattle.stand.specs.Shape.{Shape, cell_from, chunk_of, counted, inside, opens, sections, slot, spot_at}
use Rattle.stand.specs.Sound.{Sound, terms_of}
use Rattle.stand.specs.Storage.{State, shape, volume_of}
use Rattle.stand.specs.declared.Cell.{Cell}
use Rattle.stand.proofs.Edit.{fitting-lengths}
use Rattle.stand.proofs.Hash.{Words, folds_append, folds_inj, folds_lt, term_inj, term_lt, term_some}
use Rattle.stand.proofs.Kept.{Finishes}
use Rattle.stand.proofs.Opened.{shape_words_lem}
use Rattle.stand.proofs.Read.{entry_given, entry_high, listed}
use Rattle.stand.proofs.Refusal.{accepted}
use Rattle.stand.proofs.Shape.{chunk-lt, formed-opens, slot-chunk, slot_lt}
use Rattle.stand.proofs.Slots.{slot_of_cell}
use Rattle.stand.proofs.Sound.{terms_change, terms-same}
use Rattle.stand.proofs.Tests.{by-test}

-- ---- a section's terms

-- another finish in one place gives another hash
after_inj : (h w old new : ℕ) → w < 4096 → old < 65536 → new < 65536 → hash_after h w old new ≡ h → old ≡ new
unfolding hash_after toggled
after_inj h w old new l lo ln = by (eqb old 0) (eqb new 0) refl refl
  where
    by : (s t : Bool) → eqb old 0 ≡ s → eqb new 0 ≡ t
        → cond t (cond s h (bit_xor h (term_of w old))) (bit_xor (cond s h (bit_xor h (term_of w old))) (term_of w new)) ≡ h → old ≡ new
    by true true p q e = eqb-true old 0 p ∙ sym (eqb-true new 0 q)
    by true false p q e = absurd (term_some w new l ln (xor_kept h (term_of w new) e))
    by false true p q e = absurd (term_some w old l lo (xor_kept h (term_of w old) e))
    by false false p q e =
        (term_inj w w old new l l lo ln
        (xor_cancel_l h (term_of w old) (term_of w new) (xor_cancel (bit_xor h (term_of w old)) (bit_xor h (term_of w new)) (term_of w new) (e ∙ sym (xor_undo h (term_of w new)))))).1

terms-lt : (xs : List ℕ) (i n : ℕ) → terms_of xs i n < 2 ^ 64
unfolding terms_of toggled
terms-lt xs i zero = omega arith
terms-lt xs i (suc n) = by (eqb (get_or xs (i * 4096 + n) 0) 0) (terms-lt xs i n)
  where
    by : (b : Bool) → terms_of xs i n < 2 ^ 64 → cond b (terms_of xs i n) (bit_xor (terms_of xs i n) (term_of n (get_or xs (i * 4096 + n) 0))) < 2 ^ 64
    by true l = l
    by false l = xor_lt 64 (terms_of xs i n) (term_of n (get_or xs (i * 4096 + n) 0)) l (term_lt n (get_or xs (i * 4096 + n) 0))

-- lists that differ at slot j at most, and whose terms there are the same, do not differ
terms_inj : (xs ys : List ℕ) (j : ℕ) → j < length xs → get_or xs j 0 < 65536 → get_or ys j 0 < 65536
    → ((k : ℕ) → (k ≡ j → ⊥) → get_or xs k 0 ≡ get_or ys k 0)
    → terms_of xs (j / 4096) 4096 ≡ terms_of ys (j / 4096) 4096 → get_or xs j 0 ≡ get_or ys j 0
terms_inj xs ys j l lx ly h e =
    after_inj (terms_of xs (j / 4096) 4096) (j % 4096) (get_or xs j 0) (get_or ys j 0) (omega arith) lx ly
    (sym (terms_change xs j (get_or ys j 0) l) ∙ terms-same (set xs j (get_or ys j 0)) ys (j / 4096) 4096 (λ k lk. at (j / 4096 * 4096 + k)) ∙ sym e)
  where
    at : (k : ℕ) → get_or (set xs j (get_or ys j 0)) k 0 ≡ get_or ys k 0
    at k =
        by-test (eqb k j)
        (λ q. let p = eqb-true k j q in ap (λ (m : ℕ). get_or (set xs j (get_or ys j 0)) m 0) p ∙ get_or-set_same xs j (get_or ys j 0) 0 l ∙ ap (λ (m : ℕ). get_or ys m 0) (sym p))
        (λ q. get_or-set_other xs j k (get_or ys j 0) 0 (eqb-false k j q) ∙ h k (eqb-false k j q))

-- ---- what the calls answer of a sound stand

module _ (s : State) (q : Sound s) where
  hashes-length : length s.hashes ≡ sections (shape s)
  hashes-length = (fitting-lengths s q.fits).hashes

  -- neither 3 nor 4
  rules_pass : first (list_rules 1 s.volume (length s.hashes)) ≡ 0
  unfolding first
  rules_pass = rw (q.formed, eq-eqb (length s.hashes) (sections (shape s) * 1) (omega (arith, hashes-length)))

  pub hash_told : (i : ℕ) → i < sections (shape s) → entry_call s.volume s.hashes i ≡ gives (get_or s.hashes i 0)
  hash_told i l = sym (entry_given s.volume s.hashes i (listed 1 _ _ refl rules_pass) (omega (arith, hashes-length)))

  -- 7 past the last section
  pub hash-none : (i : ℕ) → sections (shape s) ≤ i → entry_call s.volume s.hashes i ≡ refused 7
  hash-none i l = sym (entry_high s.volume s.hashes i (listed 1 _ _ refl rules_pass) (omega (arith, hashes-length)))

  pub digest_told : digest_call s.volume s.hashes ≡ gives (digest_of s.volume s.hashes)
  unfolding digest_call
  digest_told = sym (accepted (digest_of s.volume s.hashes) rules_pass)

  hash-past : (i : ℕ) → sections (shape s) ≤ i → get_or s.hashes i 0 ≡ 0
  hash-past i l = get_or-eq_default s.hashes 0 {n = i} (omega (arith, hashes-length))

  -- hashes are 64-bit values
  hash_words : Words s.hashes
  hash_words i =
      by-test (ltb i (sections (shape s)))
      (λ t. subst (λ (n : ℕ). n < 2 ^ 64) (sym (q.hash i (ltb-true _ _ t))) (terms-lt s.cells i 4096))
      (λ t. subst (λ (n : ℕ). n < 2 ^ 64) (sym (hash-past i (ltb-false _ _ t))) (omega arith))

  -- the digest is a fold of the hashes, from what the shape gives
  digest-fold : digest_of s.volume s.hashes ≡ fold_words (fold_words digest_start (shape_words (volume_of (shape s) 0 0))) s.hashes
  unfolding digest_of
  digest-fold =
      folds_append digest_start (shape_words s.volume) s.hashes
      ∙ ap (λ (ws : List ℕ). fold_words (fold_words digest_start ws) s.hashes) (shape_words_lem s.volume q.formed)

-- ---- two sound stands of one origin and size

module _ (s t : State) (qs : Sound s) (qt : Sound t) (e : shape s ≡ shape t) where
  -- the two have the same finish at a cell
  abbrev pub Agree : Cell → Type 0
  Agree d = look (shape s) s.cells d ≡ look (shape t) t.cells d

  opened : opens (shape s) ≡ true
  opened = formed-opens s.volume qs.formed

  abbrev cell_in : ℕ → Cell
  cell_in k = cell_from (shape s) (spot_at (counted (shape s)) k)

  -- a slot holds the same if its cell does, or lies beyond the size
  slot_same : (k : ℕ) → (inside (shape s) (cell_in k) ≡ true → Agree (cell_in k)) → get_or s.cells k 0 ≡ get_or t.cells k 0
  unfolding look
  slot_same k h =
      by-test (inside (shape s) (cell_in k))
      (λ i.
      let p = slot_of_cell (shape s) k in
      ap (λ (m : ℕ). get_or s.cells m 0) (sym p) ∙ h i ∙ ap (λ (m : ℕ). get_or t.cells m 0) (ap (λ (g : Shape). slot g (cell_in k)) (sym e) ∙ p))
      (λ i. qs.beyond k i ∙ sym (qt.beyond k (ap (λ (g : Shape). inside g (cell_from g (spot_at (counted g) k))) (sym e) ∙ i)))

  -- a section whose cells inside agree has the same hash in both
  pub hash-same : (i : ℕ) → ((d : Cell) → inside (shape s) d ≡ true → chunk_of (shape s) d ≡ i → Agree d) → get_or s.hashes i 0 ≡ get_or t.hashes i 0
  hash-same i h =
      by-test (ltb i (sections (shape s)))
      (λ u.
      let l = ltb-true i (sections (shape s)) u in
      qs.hash i l
      ∙ terms-same s.cells t.cells i 4096 (λ k lk. slot_same (i * 4096 + k) (λ j. h (cell_in (i * 4096 + k)) j (section k lk)))
      ∙ sym (qt.hash i (subst (λ (g : Shape). i < sections g) e l)))
      (λ u.
      let l = ltb-false i (sections (shape s)) u in
      hash-past s qs i l ∙ sym (hash-past t qt i (subst (λ (g : Shape). sections g ≤ i) e l)))
    where
      section : (k : ℕ) → k < 4096 → chunk_of (shape s) (cell_in (i * 4096 + k)) ≡ i
      section k lk = omega (arith, slot-chunk (shape s) (cell_in (i * 4096 + k)), slot_of_cell (shape s) (i * 4096 + k))

  lengths-same : length s.hashes ≡ length t.hashes
  lengths-same = hashes-length s qs ∙ ap sections e ∙ sym (hashes-length t qt)

  shape-start : fold_words digest_start (shape_words (volume_of (shape s) 0 0)) ≡ fold_words digest_start (shape_words (volume_of (shape t) 0 0))
  shape-start = ap (λ (g : Shape). fold_words digest_start (shape_words (volume_of g 0 0))) e

  -- where all cells inside agree, so do the digests
  pub digest-same : ((d : Cell) → inside (shape s) d ≡ true → Agree d) → digest_of s.volume s.hashes ≡ digest_of t.volume t.hashes
  digest-same h =
      let p : s.hashes ≡ t.hashes = ext_get_or 0 s.hashes t.hashes lengths-same (λ i _. hash-same i (λ d j _. h d j)) in
      digest-fold s qs ∙ (λ i. fold_words (shape-start i) (p i)) ∙ sym (digest-fold t qt)

  -- ---- one cell off: finishes are u16, and the cells inside differ at c and nowhere else

  module _ (fs : Finishes s.cells) (ft : Finishes t.cells) (c : Cell) (there : inside (shape s) c ≡ true)
      (differ : Agree c → ⊥) (else_same : (d : Cell) → inside (shape s) d ≡ true → (d ≡ c → ⊥) → Agree d) where
    slots_else : (k : ℕ) → (k ≡ slot (shape s) c → ⊥) → get_or s.cells k 0 ≡ get_or t.cells k 0
    slots_else k n = slot_same k (λ i. else_same (cell_in k) i (λ p. n (sym (slot_of_cell (shape s) k) ∙ ap (slot (shape s)) p)))

    hashes_else : (i : ℕ) → (i ≡ chunk_of (shape s) c → ⊥) → get_or s.hashes i 0 ≡ get_or t.hashes i 0
    hashes_else i n = hash-same i (λ d j p. else_same d j (λ r. n (sym p ∙ ap (chunk_of (shape s)) r)))

    -- its section's hash is another one
    pub hash-apart : get_or s.hashes (chunk_of (shape s) c) 0 ≡ get_or t.hashes (chunk_of (shape s) c) 0 → ⊥
    unfolding look
    hash-apart p =
        let i = chunk_of (shape s) c in
        let l = chunk-lt (shape s) c opened there in
        let m = slot_lt (shape s) c opened there in
        differ
        (terms_inj s.cells t.cells (slot (shape s) c) (omega (arith, (fitting-lengths s qs.fits).cells, m)) (fs (slot (shape s) c)) (ft (slot (shape s) c)) slots_else
        (subst (λ (k : ℕ). terms_of s.cells k 4096 ≡ terms_of t.cells k 4096) (sym (slot-chunk (shape s) c))
        (sym (qs.hash i l) ∙ p ∙ qt.hash i (subst (λ (g : Shape). i < sections g) e l)))
        ∙ ap (λ (g : Shape). get_or t.cells (slot g c) 0) e)

    -- and so is the digest
    pub digest-apart : digest_of s.volume s.hashes ≡ digest_of t.volume t.hashes → ⊥
    unfolding digest_start
    digest-apart p =
        let a = fold_words digest_start (shape_words (volume_of (shape s) 0 0)) in
        hash-apart
        (folds_inj a s.hashes t.hashes (chunk_of (shape s) c) (folds_lt digest_start (shape_words (volume_of (shape s) 0 0)) (omega arith)) lengths-same
        (omega (arith, hashes-length s qs, chunk-lt (shape s) c opened there)) (hash_words s qs) (hash_words t qt) hashes_else
        (sym (digest-fold s qs) ∙ p ∙ digest-fold t qt ∙ ap (λ (n : ℕ). fold_words n t.hashes) (sym shape-start)))
