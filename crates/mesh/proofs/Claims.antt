-- Laws of the claiming functions' loops: what holds after n turns, a turn more, and at the end.
use Rattle.std.specs.List.{fold}
use Rattle.std.proofs.lemmas.List.{get_or-take}
use mathlib.Core.Path.{◌≡◌, refl, sym, ap, subst, ◌∙◌}
use mathlib.Core.List.{List}
use mathlib.Core.Logic.{⊎_elim}
use Prim.Native.Nat.{ℕ, zero, suc, ◌+◌, ◌*◌, ◌-◌, ◌≤◌, ◌<◌}
use native.Mathlib.Nat.{add-zero, add-mul, eq-or-lt_of_le, le_refl}
use native.Mathlib.Numerals.{add-one}
use native.Mathlib.Omega.{arith}
use borrow.Author.Count.{below_more}
use lib.Bits.{bit_or}
use lib.ListN.{get_or, set, length, take}
use lib.Seq.{get_or-set_other, length-take-le, set-set}
use Rattle.mesh.specs.Scan.{run_len, rows_len, clear_run, clear_rect, place, slot, rect_at, clear_of}
use Rattle.mesh.specs.declared.claim.Rect.{Rect}
use Rattle.mesh.specs.Claims.{TakePost, RowsPre, RowsPost, ClaimPre, ClaimPost, Blank, NextSeen}
use Rattle.mesh.proofs.Upto.{row_fits}
use Rattle.mesh.proofs.Runs.{run_is, run-alike, run-most, run_pass, run_stop, rows_is, rows-first, run-later, rect_later, clear_first, fold_none}

-- ---- take_run: the slots from `at` on, of which the first is cleared before the loop

-- m₀ as the loop found it, n slots taken
pub record Taking (m₀ m : List ℕ) (at most x n : ℕ) : Type 0 where
  pub some : 1 ≤ n
  pub high : n ≤ most
  pub mask : m ≡ clear_run m₀ at n
  pub held : (i : ℕ) → 1 ≤ i → i < n → get_or m₀ (at + i) 0 ≡ x

clear_again : (m : List ℕ) (p k : ℕ) → clear_run (set m p 0) p (suc k) ≡ clear_run m p (suc k)
unfolding clear_run
clear_again m p zero = rw add-zero (set-set m p 0 0)
clear_again m p (suc k) = ap (λ (l : List ℕ). set l (p + suc k) 0) (clear_again m p k)

pub taking_start : (m : List ℕ) (at most x : ℕ) → 0 < most → Taking (set m at 0) (set m at 0) at most x 1
unfolding clear_run
taking_start m at most x l =
    record { some = le_refl _; high = l; mask = rw add-zero (sym (set-set m at 0 0)); held = λ i l1 l2. absurd (omega arith) }

module _ {m₀ m : List ℕ} {at most x n : ℕ} (t : Taking m₀ m at most x n) where
  taking_at : get_or m (at + n) 0 ≡ get_or m₀ (at + n) 0
  taking_at = ap (λ (l : List ℕ). get_or l (at + n) 0) t.mask ∙ run-later m₀ at n (at + n) (le_refl _)

  pub taking_more : n < most → get_or m (at + n) 0 ≡ x → Taking m₀ (set m (at + n) 0) at most x (n + 1)
  unfolding clear_run
  taking_more l e =
      record {
        some = omega arith;
        high = omega arith;
        mask = rw add-one (ap (λ (l : List ℕ). set l (at + n) 0) t.mask);
        held = λ i l1 l2. below_more (λ (i : ℕ). 1 ≤ i → get_or m₀ (at + i) 0 ≡ x) n (λ i lt ge. t.held i ge lt) (λ ge. sym taking_at ∙ e) i l2 l1;
      }

pub taken : {m m' : List ℕ} {at most n : ℕ} → Taking (set m at 0) m' at most (get_or m at 0) n
    → (n < most → get_or m' (at + n) 0 ≡ get_or m at 0 → ⊥) → TakePost m m' at most n
taken {m} {m'} {at} {most} {n} t end =
    record {
      run = run_is m at most (get_or m at 0) n t.high held (λ l e. end l (taking_at t ∙ apart n t.some ∙ e));
      mask = t.mask ∙ cleared n t.some;
      low = t.some;
      high = t.high;
    }
  where
    apart : (i : ℕ) → 1 ≤ i → get_or (set m at 0) (at + i) 0 ≡ get_or m (at + i) 0
    apart i l = get_or-set_other m at (at + i) 0 0 (λ e. omega arith)

    held : (i : ℕ) → i < n → get_or m (at + i) 0 ≡ get_or m at 0
    held zero l = rw add-zero refl
    held (suc i) l = sym (apart (suc i) (omega arith)) ∙ t.held (suc i) (omega arith) l

    cleared : (n : ℕ) → 1 ≤ n → clear_run (set m at 0) at n ≡ clear_run m at n
    cleared zero l = absurd (omega arith)
    cleared (suc k) l = clear_again m at k

-- ---- take_rows

pub record TakingRows (m₀ m : List ℕ) (w at run most x n : ℕ) : Type 0 where
  pub high : n ≤ most
  pub mask : m ≡ clear_rect m₀ w at run n
  pub held : (j : ℕ) → j < n → run_len m₀ (at + j * w) run x ≡ run

pub rows_start : (m : List ℕ) (w at run most x : ℕ) → TakingRows m m w at run most x 0
unfolding clear_rect
rows_start m w at run most x = record { high = omega arith; mask = refl; held = λ j l. absurd (omega arith) }

module _ {m₀ m : List ℕ} {w at run most x n : ℕ} (t : TakingRows m₀ m w at run most x n) where
  -- the next row is as it was
  rows_at : run ≤ w → run_len m (at + n * w) run x ≡ run_len m₀ (at + n * w) run x
  rows_at l =
      run-alike m m₀ (at + n * w) (at + n * w) run x
      (λ i li. ap (λ (l : List ℕ). get_or l (at + n * w + i) 0) t.mask ∙ rect_later m₀ w at run n (at + n * w + i) l (omega arith))

  pub rows_more : {m' : List ℕ} → run ≤ w → n < most → run_len m (at + n * w) run x ≡ run → m' ≡ clear_run m (at + n * w) run
      → TakingRows m₀ m' w at run most x (n + 1)
  unfolding clear_rect
  rows_more lw l e c =
      record {
        high = omega arith;
        mask = c ∙ rw add-one (ap (λ (l : List ℕ). clear_run l (at + n * w) run) t.mask);
        held = below_more (λ (j : ℕ). run_len m₀ (at + j * w) run x ≡ run) n t.held (sym (rows_at lw) ∙ e);
      }

  pub rows_taken : run ≤ w → (n < most → run_len m (at + n * w) run x ≡ run → ⊥) → RowsPost m₀ m w at run most x n
  rows_taken lw end =
      record {
        rows = rows_is m₀ w at run most x n t.high t.held (λ l e. end l (rows_at lw ∙ e));
        mask = t.mask;
        high = t.high;
      }

-- none where there are none, or the first slot holds another number
pub rows_none : {m : List ℕ} {w at run most x : ℕ} → 1 ≤ run → (0 < most → get_or m at 0 ≡ x → ⊥) → RowsPost m m w at run most x 0
unfolding clear_rect
rows_none {m} {w} {at} {run} {most} {x} s h =
    let z : at + 0 * w + 0 ≡ at = omega arith in
    record {
      rows = rows_is m w at run most x 0 (omega arith) (λ j l. absurd (omega arith)) (λ l e. h l (rw z at (run_pass m (at + 0 * w) run x 0 (omega (arith, e)))));
      mask = refl;
      high = omega arith;
    }

-- ---- claim_at

module _ {m : List ℕ} {w h u v at : ℕ} (p : ClaimPre m w h u v at) where
  -- the rows above that of (u, v) lie in the mask
  pub claim_rows : (len run : ℕ) → len ≡ length m → run ≤ w - u → RowsPre len w (at + w) run (h - v - 1)
  claim_rows len run e l =
      record {
        narrow = omega arith;
        room = λ j k.
            let a = p.whole in
            let b = p.here in
            let c = p.first in
            let d = p.second in
            omega (arith, row_fits w h (v + 1 + j) (omega arith), add-mul (v + 1) j w, add-mul v 1 w);
      }

  pub claim_done : {m₁ m₂ : List ℕ} {run rows : ℕ} → TakePost m m₁ at (w - u) run → RowsPost m₁ m₂ w (at + w) run (h - v - 1) (get_or m at 0) rows
      → ClaimPost m m₂ w h u v (record { u = u; v = v; run = run; rows = rows + 1; value = get_or m at 0 })
  unfolding rect_at clear_of
  claim_done {m₁} {m₂} {run} {rows} a b =
      let x = get_or m at 0 in
      let lu = p.first in
      let lv = p.second in
      let ha = a.high in
      let hb = b.high in
      let some = a.low in
      let eh : h - v ≡ suc (h - v - 1) = omega arith in
      let held : (i : ℕ) → i < run → get_or m (at + i) 0 ≡ x = λ i l. run_pass m at (w - u) x i (omega (arith, a.run)) in
      let run_e : run ≡ run_len m (place w u v) (w - u) (slot w m u v) = a.run ∙ (λ i. run_len m (p.here i) (w - u) (get_or m (p.here i) 0)) in
      let rows_e : rows + 1 ≡ rows_len m w at run (h - v) x =
      rw (eh, add-one) (ap suc (b.rows ∙ ap (λ (l : List ℕ). rows_len l w (at + w) run (h - v - 1) x) a.mask) ∙ sym (rows-first m w at run (h - v - 1) x (omega arith) held)) in
      let mask_e : m₂ ≡ clear_rect m w at run (rows + 1) =
      rw add-one (b.mask ∙ ap (λ (l : List ℕ). clear_rect l w (at + w) run rows) a.mask ∙ sym (clear_first m w at run rows)) in
      record {
        rect = λ i. record { u = u; v = v; run = run_e i; rows = (rows_e ∙ (λ j. rows_len m w (p.here j) (run_e j) (h - v) (get_or m (p.here j) 0))) i; value = get_or m (p.here i) 0 };
        mask = mask_e ∙ ap (λ (n : ℕ). clear_rect m w n run (rows + 1)) p.here;
        some-run = a.low;
        some-rows = omega arith;
        wide = omega arith;
        high = omega arith;
      }

-- the slot that the rectangle was claimed from
module _ {m m' : List ℕ} {w h u v : ℕ} {r : Rect} (p : ClaimPost m m' w h u v r) where
  pub first-at : r.u ≡ u
  unfolding rect_at
  first-at = ap (λ (r : Rect). r.u) p.rect

  pub second-at : r.v ≡ v
  unfolding rect_at
  second-at = ap (λ (r : Rect). r.v) p.rect

-- ---- slots that are 0

pub blank-start : {m : List ℕ} {from n : ℕ} → from ≤ n → Blank m from n from
blank-start l = record { low = le_refl _; high = l; passed = λ i lo hi. absurd (omega arith) }

pub blank-wide : {m : List ℕ} {from n n' q : ℕ} → n ≤ n' → Blank m from n q → Blank m from n' q
blank-wide l b = record { low = b.low; high = omega (arith, b.high); passed = b.passed }

pub blank-kept : {m m' : List ℕ} {from n q : ℕ} → ((i : ℕ) → get_or m i 0 ≡ 0 → get_or m' i 0 ≡ 0) → Blank m from n q → Blank m' from n q
blank-kept k b = record { low = b.low; high = b.high; passed = λ i lo hi. k i (b.passed i lo hi) }

-- one slot more, before the others
pub blank-front : {m : List ℕ} {from k n q : ℕ} → k ≡ suc from → get_or m from 0 ≡ 0 → Blank m k n q → Blank m from n q
blank-front {m} e z b =
    record {
      low = omega (arith, b.low);
      high = b.high;
      passed = λ i lo hi. ⊎_elim (λ d. subst (λ (j : ℕ). get_or m j 0 ≡ 0) d z) (λ l. b.passed i (omega arith) hi) (eq-or-lt_of_le lo);
    }

-- ---- next_seen

pub next-seen : (m : List ℕ) (from n r : ℕ) → from < n → r ≡ run_len m from (n - from) 0 → NextSeen m from n (from + r)
next-seen m from n r l e =
    let a : r ≤ n - from = rw e (run-most m from (n - from) 0) in
    record {
      low = omega arith;
      high = λ _. omega arith;
      past = λ k. absurd (omega arith);
      passed = λ i lo hi. let b : from + (i - from) ≡ i = omega arith in rw b at (run_pass m from (n - from) 0 (i - from) (omega arith));
      seen = λ k z. run_stop m from (n - from) 0 (omega arith) (rw e at z);
    }

-- no bit in any slot
pub next_none : (m : List ℕ) (from n a : ℕ) → n ≤ length m → from < n → from ≡ 0 → a ≡ fold bit_or 0 (take n m) → a ≡ 0 → NextSeen m from n n
next_none m from n a h l z e o =
    let b = (fold_none (take n m) 0 (sym e ∙ o)).1 in
    record {
      low = omega arith;
      high = λ _. omega arith;
      past = λ k. absurd (omega arith);
      passed = λ i lo hi. sym (get_or-take n m i 0 hi) ∙ b i (omega (arith, length-take-le n m h));
      seen = λ k. absurd (omega arith);
    }
