-- One pass over the records gives the digest.
use Rattle.std.proofs.Common.{◌≡◌, ℕ, zero, suc, ◌+◌, ◌-◌, ◌*◌, ◌/◌, ◌%◌, ◌<◌, ◌≤◌, Bool, true, false, cond, List, [], ◌∷◌, eqb, drop, get_or, length, replicate, set, sym, refl, ap, ◌∙◌, subst, add-one, arith, drop-cons, length-set, get_or-set_same, eq-eqb, eqb-true}
use borrow.Author.Tests.{eqb-false, ne_eqb}
use lib.ListN.{length-replicate}
use lib.Seq.{drop-length, get_or-set_other}
use Rattle.stand.specs.Edit.{toggled}
use Rattle.stand.specs.Hash.{digest_of, digest_start, fold_word, fold_words, shape_words}
use Rattle.stand.specs.Shape.{Shape, sections, shape_of, well_formed}
use Rattle.stand.specs.Storage.{volume_of}
use Rattle.stand.specs.declared.volume.Volume.{Volume}
use Rattle.stand.proofs.Hash.{folds_append}
use Rattle.stand.proofs.Kept.{zeros}
use Rattle.stand.proofs.Opened.{shape_words_lem}
use Rattle.stand.proofs.Tests.{by-test}
use Rattle.form.specs.Entries.{Entry, digest_with, mixed}
use Rattle.form.specs.Form.{entries_at, entry_in}
use Rattle.form.specs.Inner.{Asc, Each, Ordered, record_at, run_from, run_of}
use Rattle.form.specs.declared.digest.Run.{Run}
use Rattle.form.proofs.Loaded.{mixed-length}

-- ---- hashes by section

-- those of a fresh stand with the first n records taken in
abbrev pub hashes_of : Shape → List ℕ → ℕ → List ℕ
hashes_of g f n = mixed (entries_at f 25 n) (replicate (sections g) 0)

-- the hash h of section i, with the terms of the entries that lie in it
unfoldable pub hashed : List Entry → ℕ → ℕ → ℕ
hashed [] i h = h
hashed (e ∷ es) i h = hashed es i (cond (eqb i (e.slot / 4096)) (toggled (e.slot % 4096) e.finish h) h)

pub mixed-at : (n : ℕ) (es : List Entry) (hs : List ℕ) → length hs ≡ n → Each (λ e. e.slot < n * 4096) es
    → (i : ℕ) → i < n → get_or (mixed es hs) i 0 ≡ hashed es i (get_or hs i 0)
unfolding mixed hashed
mixed-at n [] hs l b i h = refl
mixed-at n (e ∷ es) hs l b i h =
    let j = e.slot / 4096 in
    let x = toggled (e.slot % 4096) e.finish (get_or hs j 0) in
    mixed-at n es (set hs j x) (length-set hs j x ∙ l) b.1 i h
    ∙ ap (hashed es i) (by-test (eqb i j)
    (λ q.
    let p = eqb-true i j q in
    rw q (ap (λ (k : ℕ). get_or (set hs j x) k 0) p ∙ get_or-set_same hs j x 0 (omega (arith, b.0)) ∙ ap (λ (k : ℕ). toggled (e.slot % 4096) e.finish (get_or hs k 0)) (sym p)))
    (λ q. rw q (get_or-set_other hs j i x 0 (eqb-false i j q))))

-- a section before all entries
pub hashed_before : (es : List Entry) (k i h : ℕ) → Asc k es → i * 4096 + 4096 ≤ k → hashed es i h ≡ h
unfolding hashed
hashed_before [] k i h a l = refl
hashed_before (e ∷ es) k i h a l =
    rw (ne_eqb i (e.slot / 4096) (λ q. omega (arith, a.0)))
    (hashed_before es (suc e.slot) i h a.1 (omega (arith, a.0)))

-- ---- a run of one section's records

pub record Ran (f : List ℕ) (i k h m : ℕ) (r : Run) : Type 0 where
  pub low : k ≤ r.next
  pub high : r.next ≤ k + m
  pub later : Asc (i * 4096 + 4096) (entries_at f (record_at r.next) (k + m - r.next))
  pub hash : hashed (entries_at f (record_at k) m) i h ≡ r.hash
  pub others : (j x : ℕ) → i < j → hashed (entries_at f (record_at k) m) j x ≡ hashed (entries_at f (record_at r.next) (k + m - r.next)) j x

pub ran : (f : List ℕ) (i m k h low : ℕ) → i * 4096 ≤ low → Asc low (entries_at f (record_at k) m) → Ran f i k h m (run_from f i k h m)
unfolding run_from hashed entries_at
ran f i zero k h low l a =
    let z : k + 0 - k ≡ 0 = omega arith in
    record {
      low = omega arith;
      high = omega arith;
      later = rw z tt;
      hash = refl;
      others = λ j x q. rw z;
    }
ran f i (suc m) k h low l a = go (eqb i ((entry_in f (record_at k)).slot / 4096)) refl
    (ran f i m (k + 1) (toggled ((entry_in f (record_at k)).slot % 4096) (entry_in f (record_at k)).finish h) (suc (entry_in f (record_at k)).slot))
  where
    e : Entry
    e = entry_in f (record_at k)

    n7 : record_at k + 7 ≡ record_at (k + 1)
    n7 = omega arith

    tail : Asc (suc (entry_in f (record_at k)).slot) (entries_at f (record_at (k + 1)) m)
    tail = subst (λ (p : ℕ). Asc (suc (entry_in f (record_at k)).slot) (entries_at f p m)) n7 a.1

    go : (b : Bool) → eqb i ((entry_in f (record_at k)).slot / 4096) ≡ b
        → (i * 4096 ≤ suc (entry_in f (record_at k)).slot → Asc (suc (entry_in f (record_at k)).slot) (entries_at f (record_at (k + 1)) m)
        → Ran f i (k + 1) (toggled ((entry_in f (record_at k)).slot % 4096) (entry_in f (record_at k)).finish h) m (run_from f i (k + 1) (toggled ((entry_in f (record_at k)).slot % 4096) (entry_in f (record_at k)).finish h) m))
        → Ran f i k h (suc m) (cond b (run_from f i (k + 1) (toggled ((entry_in f (record_at k)).slot % 4096) (entry_in f (record_at k)).finish h) m) (run_of k h))
    go true q ih =
        let r = ih (omega (arith, a.0)) tail in
        let s : k + 1 + m ≡ k + suc m = omega arith in
        let p = eqb-true i ((entry_in f (record_at k)).slot / 4096) q in
        let t = run_from f i (k + 1) (toggled ((entry_in f (record_at k)).slot % 4096) (entry_in f (record_at k)).finish h) m in
        record {
          low = omega (arith, r.low);
          high = omega (arith, r.high);
          later = subst (λ (n : ℕ). Asc (i * 4096 + 4096) (entries_at f (record_at t.next) (n - t.next))) s r.later;
          hash = ap (λ (b : Bool). hashed (entries_at f (record_at k + 7) m) i (cond b (toggled ((entry_in f (record_at k)).slot % 4096) (entry_in f (record_at k)).finish h) h)) q ∙ ap (λ (n : ℕ). hashed (entries_at f n m) i (toggled ((entry_in f (record_at k)).slot % 4096) (entry_in f (record_at k)).finish h)) n7 ∙ r.hash;
          others = λ j x l2.
              ap (λ (b : Bool). hashed (entries_at f (record_at k + 7) m) j (cond b (toggled ((entry_in f (record_at k)).slot % 4096) (entry_in f (record_at k)).finish x) x)) (ne_eqb j ((entry_in f (record_at k)).slot / 4096) (λ w. omega arith))
              ∙ (ap (λ (n : ℕ). hashed (entries_at f n m) j x) n7 ∙ r.others j x l2 ∙ ap (λ (n : ℕ). hashed (entries_at f (record_at t.next) (n - t.next)) j x) s);
        }
    go false q ih =
        let p = eqb-false i ((entry_in f (record_at k)).slot / 4096) q in
        let s : k + suc m - k ≡ suc m = omega arith in
        let above : i * 4096 + 4096 ≤ (entry_in f (record_at k)).slot = omega (arith, a.0) in
        record {
          low = omega arith;
          high = omega arith;
          later = rw s (above, a.1);
          hash = ap (λ (b : Bool). hashed (entries_at f (record_at k + 7) m) i (cond b (toggled ((entry_in f (record_at k)).slot % 4096) (entry_in f (record_at k)).finish h) h)) q ∙ hashed_before (entries_at f (record_at k + 7) m) (suc (entry_in f (record_at k)).slot) i h a.1 (omega arith);
          others = λ j x l2. rw s;
        }

-- ---- the pass: sections below i folded in, records below k read

pub record Streams (f : List ℕ) (n : ℕ) (g : Shape) (start i k acc : ℕ) : Type 0 where
  pub few : k ≤ n
  pub folded : fold_words acc (drop i (hashes_of g f n)) ≡ fold_words start (hashes_of g f n)
  pub asc : Asc (i * 4096) (entries_at f (record_at k) (n - k))
  pub hashes : (j : ℕ) → i ≤ j → j < sections g → hashed (entries_at f (record_at k) (n - k)) j 0 ≡ get_or (hashes_of g f n) j 0

pub hashes-count : (g : Shape) (f : List ℕ) (n : ℕ) → length (hashes_of g f n) ≡ sections g
hashes-count g f n = mixed-length (entries_at f 25 n) (replicate (sections g) 0) ∙ length-replicate {A = ℕ} (sections g) 0

pub streams_none : (f : List ℕ) (n : ℕ) (g : Shape) {start : ℕ} → Ordered g (entries_at f 25 n) → Streams f n g start 0 0 start
streams_none f n g {start} o =
    let z : n ≡ n - 0 = omega arith in
    let m = sections g in
    record {
      few = omega arith;
      folded = refl;
      asc = subst (λ (m : ℕ). Asc 0 (entries_at f 25 m)) z o.ascending;
      hashes = λ j x y.
          ap (λ (m : ℕ). hashed (entries_at f 25 m) j 0) (sym z)
          ∙ sym (mixed-at m (entries_at f 25 n) (replicate m 0) (length-replicate {A = ℕ} m 0) o.below j y
          ∙ ap (hashed (entries_at f 25 n) j) (zeros m j));
    }

pub streams_more : {f : List ℕ} {n : ℕ} {g : Shape} {start i k acc a : ℕ} {t : Run} → Streams f n g start i k acc → i < sections g
    → t ≡ run_from f i k 0 (n - k) → a ≡ fold_word acc t.hash → Streams f n g start (i + 1) t.next a
unfolding fold_words
streams_more {f} {n} {g} {start} {i} {k} {acc} {a} {t} s l et ea =
    let r : Ran f i k 0 (n - k) t = subst (Ran f i k 0 (n - k)) (sym et) (ran f i (n - k) k 0 (i * 4096) (omega arith) s.asc) in
    let hs = hashes_of g f n in
    let m : k + (n - k) ≡ n = omega (arith, s.few) in
    let up : i * 4096 + 4096 ≡ (i + 1) * 4096 = omega arith in
    let e : t.hash ≡ get_or hs i 0 = sym (sym (s.hashes i (omega arith) l) ∙ r.hash) in
    record {
      few = omega (arith, r.high, s.few);
      folded = (λ j. fold_words ((ea ∙ ap (fold_word acc) e) j) (drop (add-one i j) hs)) ∙ ap (fold_words acc) (sym (drop-cons hs i 0 (omega (arith, hashes-count g f n)))) ∙ s.folded;
      asc = subst (λ (c : ℕ). Asc c (entries_at f (record_at t.next) (n - t.next))) up (subst (λ (c : ℕ). Asc (i * 4096 + 4096) (entries_at f (record_at t.next) (c - t.next))) m r.later);
      hashes = λ j a b. ap (λ (c : ℕ). hashed (entries_at f (record_at t.next) (c - t.next)) j 0) (sym m) ∙ sym (r.others j 0 (omega arith)) ∙ s.hashes j (omega arith) b;
    }

pub streams_all : {f : List ℕ} {n : ℕ} {start i k acc : ℕ} (v : Volume) → Streams f n (shape_of v) start i k acc → well_formed v ≡ true
    → start ≡ fold_words digest_start (shape_words v) → i ≡ sections (shape_of v) → acc ≡ digest_with (shape_of v) (entries_at f 25 n)
unfolding digest_with digest_of fold_words
streams_all {f} {n} {start} {i} {k} {acc} v s ok es e =
    let g = shape_of v in
    let hs : List ℕ = hashes_of g f n in
    let d : drop i hs ≡ [] = ap (λ (m : ℕ). drop m hs) (e ∙ sym (hashes-count g f n)) ∙ drop-length hs in
    sym (ap (fold_words acc) d) ∙ s.folded ∙ ap (λ (a : ℕ). fold_words a hs) (es ∙ ap (fold_words digest_start) (shape_words_lem v ok))
    ∙ sym (folds_append digest_start (shape_words (volume_of g 0 0)) hs)

-- ---- for the code: a run, record by record

module _ (f : List ℕ) (i n k h : ℕ) where
  pub run_stop : k < n → ((entry_in f (record_at k)).slot / 4096 ≡ i → ⊥) → run_from f i k h (n - k) ≡ run_of k h
  unfolding run_from
  run_stop l d =
      let s : n - k ≡ suc (n - (k + 1)) = omega arith in
      ap (run_from f i k h) s ∙ rw (ne_eqb i ((entry_in f (record_at k)).slot / 4096) (λ q. d (sym q)))

  pub run_on : k < n → (entry_in f (record_at k)).slot / 4096 ≡ i
      → run_from f i k h (n - k) ≡ run_from f i (k + 1) (toggled ((entry_in f (record_at k)).slot % 4096) (entry_in f (record_at k)).finish h) (n - (k + 1))
  unfolding run_from
  run_on l q =
      let s : n - k ≡ suc (n - (k + 1)) = omega arith in
      ap (run_from f i k h) s ∙ rw (eq-eqb i ((entry_in f (record_at k)).slot / 4096) (sym q))

  pub run_end : n ≤ k → run_from f i k h (n - k) ≡ run_of k h
  unfolding run_from
  run_end l = let z : n - k ≡ 0 = omega arith in ap (run_from f i k h) z
