-- Entries of slots one after the other, written.
use Rattle.std.proofs.Common.{◌≡◌, ℕ, zero, suc, ◌+◌, ◌*◌, ◌/◌, ◌%◌, ◌<◌, ◌≤◌, Bool, true, false, cond, List, [], ◌∷◌, ◌++◌, get_or, length, sym, refl, ap, ◌∙◌, subst, append_assoc, arith, length-append}
use borrow.Author.Tests.{ne_eqb}
use lib.Seq.{sets}
use Rattle.stand.specs.Cells.{is_empty}
use Rattle.stand.specs.Shape.{corner, counts_of, sections, shape_of, well_formed}
use Rattle.stand.specs.declared.volume.Volume.{Volume}
use Rattle.stand.specs.declared.volume.shape.Point.{Point}
use Rattle.form.specs.Entries.{Entry, entries_from, entries_of, entry_of, kept_at}
use Rattle.form.specs.Form.{entries_bytes, entry_bytes}
use Rattle.arith.specs.Bytes.{short_bytes}
use Rattle.form.specs.Inner.{Written, inside_spot, kept_in, one_of}
use Rattle.form.proofs.Entries.{entries_same}
use Rattle.form.proofs.Reading.{entries_length}
use Rattle.form.proofs.inside.Laws.{inside_spot_lem}
use Rattle.form.proofs.put.Laws.{sets_append}

-- ---- the entry of one slot

pub written_none : (out : List ℕ) (at k x : ℕ) → x ≡ 0 → Written out out at (one_of k x) at
unfolding one_of entries_bytes
written_none out at k x e = rw e (record { place = omega arith; bytes = λ h. refl })

module _ (out : List ℕ) (at k x : ℕ) (e : x ≡ 0 → ⊥) where
  pub written_one : {new : List ℕ} → new ≡ sets out at (entry_bytes (entry_of k x)) → Written out new at (one_of k x) (at + 7)
  unfolding one_of entries_bytes entry_bytes short_bytes
  written_one q = rw (ne_eqb x 0 e) (record { place = refl; bytes = λ h. q })

  pub written_full : length out < at + 7 → Written out out at (one_of k x) (at + 7)
  unfolding one_of entries_bytes entry_bytes short_bytes
  written_full l = rw (ne_eqb x 0 e) (record { place = refl; bytes = λ h. absurd (omega arith) })

-- ---- the slots of section i, by where it begins

pub kept_here : (low n : Point) (cells : List ℕ) (i j : ℕ) → j < 4096 → {x : ℕ} → x ≡ cond (inside_spot low n j) (get_or cells (i * 4096 + j) 0) 0 → x ≡ kept_in low n cells (i * 4096 + j)
unfolding kept_in
kept_here low n cells i j l e =
    let w : j ≡ (i * 4096 + j) % 4096 = omega arith in
    e ∙ ap (λ (k : ℕ). cond (inside_spot low n k) (get_or cells (i * 4096 + j) 0) 0) w

section_same : (v : Volume) (cells : List ℕ) → well_formed v ≡ true → (i : ℕ) {low n : Point} → low ≡ corner (counts_of v.chunks) i → n ≡ counts_of v.size
    → entries_from (kept_in low n cells) (i * 4096) 4096 ≡ entries_from (kept_at (shape_of v) cells) (i * 4096) 4096
unfolding kept_in kept_at
section_same v cells ok i {low} {n} el en =
    entries_same (kept_in low n cells) (kept_at (shape_of v) cells) 4096 (i * 4096)
    (λ j a b.
    let s : i ≡ j / 4096 = omega arith in
    ap (λ (t : Bool). cond t (get_or cells j 0) 0) (inside_spot_lem v ok j (el ∙ ap (corner (counts_of v.chunks)) s) en))

pub written_section : (v : Volume) (cells : List ℕ) → well_formed v ≡ true → (i j : ℕ) {low n : Point} {old out : List ℕ} {p at : ℕ} → low ≡ corner (counts_of v.chunks) i → n ≡ counts_of v.size
    → j ≡ 4096 → Written old out p (entries_from (kept_in low n cells) (i * 4096) j) at → Written old out p (entries_from (kept_at (shape_of v) cells) (i * 4096) 4096) at
written_section v cells ok i j {low} {n} {old} {out} {p} {at} el en ej w =
    subst (λ (es : List Entry). Written old out p es at) (ap (entries_from (kept_in low n cells) (i * 4096)) ej ∙ section_same v cells ok i el en) w

-- ---- entries of slots one after the other

one_slot : (look : ℕ → ℕ) (k : ℕ) → one_of k (look k) ≡ entries_from look k 1
unfolding one_of entries_from
one_slot look k = refl

bytes-append : (xs ys : List Entry) → entries_bytes (xs ++ ys) ≡ entries_bytes xs ++ entries_bytes ys
unfolding entries_bytes
bytes-append [] ys = refl
bytes-append (x ∷ xs) ys = ap (λ (l : List ℕ). entry_bytes x ++ l) (bytes-append xs ys) ∙ sym (append_assoc (entry_bytes x) (entries_bytes xs) (entries_bytes ys))

from-append : (look : ℕ → ℕ) (m n k : ℕ) → entries_from look k (m + n) ≡ entries_from look k m ++ entries_from look (k + m) n
unfolding entries_from
from-append look zero n k =
    let a : zero + n ≡ n = omega arith in
    let b : k ≡ k + 0 = omega arith in
    λ i. entries_from look (b i) (a i)
from-append look (suc m) n k =
    let a : suc m + n ≡ suc (m + n) = omega arith in
    let b : suc k + m ≡ k + suc m = omega arith in
    ap (entries_from look k) a
    ∙ by (is_empty (look k)) (from-append look m n (suc k) ∙ ap (λ (j : ℕ). entries_from look (suc k) m ++ entries_from look j n) b)
  where
    by : (t : Bool) → entries_from look (suc k) (m + n) ≡ entries_from look (suc k) m ++ entries_from look (k + suc m) n
        → cond t (entries_from look (suc k) (m + n)) (entry_of k (look k) ∷ entries_from look (suc k) (m + n))
        ≡ cond t (entries_from look (suc k) m) (entry_of k (look k) ∷ entries_from look (suc k) m) ++ entries_from look (k + suc m) n
    by true e = e
    by false e = ap (λ (l : List Entry). entry_of k (look k) ∷ l) e

pub count-few : (look : ℕ → ℕ) (m k : ℕ) → length (entries_from look k m) ≤ m
unfolding entries_from
count-few look zero k = omega arith
count-few look (suc m) k = by (is_empty (look k)) (count-few look m (suc k))
  where
    by : (b : Bool) → length (entries_from look (suc k) m) ≤ m → length (cond b (entries_from look (suc k) m) (entry_of k (look k) ∷ entries_from look (suc k) m)) ≤ suc m
    by true h = omega arith
    by false h = omega arith

pub written_start : (look : ℕ → ℕ) (out : List ℕ) (a p : ℕ) → Written out out p (entries_from look a 0) p
unfolding entries_from entries_bytes
written_start look out a p = record { place = omega arith; bytes = λ h. refl }

module _ (look : ℕ → ℕ) (a j : ℕ) {old out : List ℕ} {p at : ℕ} (w : Written old out p (entries_from look a j) at) where
  pub written_few : at ≤ p + 7 * j
  written_few = omega (arith, w.place, entries_length (entries_from look a j), count-few look j a)

  -- those of j slots from a on, and then of m more
  pub written_more : (m : ℕ) {q : ℕ} {new : List ℕ} → length out ≡ length old → Written out new at (entries_from look (a + j) m) q → Written old new p (entries_from look a (j + m)) q
  written_more m l v =
      let b = ap entries_bytes (from-append look j m a) ∙ bytes-append (entries_from look a j) (entries_from look (a + j) m) in
      let n = ap (λ (bs : List ℕ). length bs) b ∙ length-append (entries_bytes (entries_from look a j)) (entries_bytes (entries_from look (a + j) m)) in
      record {
        place = omega (arith, v.place, w.place, n);
        bytes = λ h.
            v.bytes (omega arith) ∙ ap (λ (l : List ℕ). sets l at (entries_bytes (entries_from look (a + j) m))) (w.bytes (omega (arith, v.place)))
            ∙ sets_append (entries_bytes (entries_from look a j)) (entries_bytes (entries_from look (a + j) m)) old p at w.place
            ∙ ap (sets old p) (sym b);
      }

  pub written_slot : {k x q : ℕ} {new : List ℕ} → length out ≡ length old → k ≡ a + j → x ≡ look (a + j) → Written out new at (one_of k x) q → Written old new p (entries_from look a (j + 1)) q
  written_slot {k} {x} {q} {new} l ek ex v = written_more 1 l (subst (λ (es : List Entry). Written out new at es q) ((λ i. one_of (ek i) (ex i)) ∙ one_slot look (a + j)) v)

  pub written_sections : (i : ℕ) {q : ℕ} {new : List ℕ} → a ≡ 0 → j ≡ i * 4096 → length out ≡ length old → Written out new at (entries_from look (i * 4096) 4096) q
      → Written old new p (entries_from look a ((i + 1) * 4096)) q
  written_sections i {q} {new} ea ej l v =
      let s : i * 4096 ≡ a + j = omega arith in
      let m : j + 4096 ≡ (i + 1) * 4096 = omega arith in
      subst (λ (k : ℕ). Written old new p (entries_from look a k) q) m
      (written_more 4096 l (subst (λ (k : ℕ). Written out new at (entries_from look k 4096) q) s v))

  pub written_all : (v : Volume) (cells : List ℕ) → look ≡ kept_at (shape_of v) cells → a ≡ 0 → j ≡ sections (shape_of v) * 4096 → Written old out p (entries_of (shape_of v) cells) at
  unfolding entries_of
  written_all v cells el ea ej = subst (λ (es : List Entry). Written old out p es at) (λ i. entries_from (el i) (ea i) (ej i)) w
