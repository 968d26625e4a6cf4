-- The log and the last changes of n sections against k numbered notes.
use mathlib.Core.Path.{◌≡◌, refl, sym, ap, ◌∙◌}
use mathlib.Core.Logic.{◌≢◌}
use mathlib.Core.Bool.{cond}
use mathlib.Core.List.{List}
use Prim.Native.Nat.{ℕ, ◌+◌, ◌/◌, ◌%◌, ◌≤◌, ◌<◌}
use native.Mathlib.Nat.{div-add-mod', mod-lt, mul-le-mul_right}
use native.Mathlib.Omega.{arith}
use borrow.Author.Tests.{eq-eqb, eqb-false, eqb-true, ltb-false, ltb-true, ne_eqb}
use lib.Dec.{eqb, ltb}
use lib.ListN.{length, get_or, replicate, set}
use lib.Seq.{get_or-set_other, get_or-set_same}
use Rattle.stand.proofs.Kept.{zeros}
use Rattle.stand.proofs.Tests.{by-test}

pub record Notes (n k : ℕ) (log last : List ℕ) (noted : ℕ → ℕ) : Type 0 where
  pub noted_in : (j : ℕ) → 1 ≤ j → j ≤ k → noted j < n
  -- the log holds what was noted under the last n numbers
  pub ring : (j : ℕ) → j < k → k ≤ j + n → get_or log (j % n) 0 ≡ noted (j + 1)
  -- a section's last change is the greatest number under which it is noted, 0 for none
  pub last-noted : (d : ℕ) → 1 ≤ get_or last d 0 → (get_or last d 0 ≤ k) × (noted (get_or last d 0) ≡ d)
  pub last-most : (j : ℕ) → 1 ≤ j → j ≤ k → j ≤ get_or last (noted j) 0

-- nothing noted yet
pub notes_none : (n : ℕ) (noted : ℕ → ℕ) → Notes n 0 (replicate n 0) (replicate n 0) noted
notes_none n noted =
    record {
      noted_in = λ j h l. absurd (omega arith);
      ring = λ j h l. absurd (omega arith);
      last-noted = λ d h. absurd (omega (arith, zeros n d));
      last-most = λ j h l. absurd (omega arith);
    }

-- two numbers less than n apart have different entries
entries_differ : (i j n : ℕ) → i < j → j < i + n → i % n ≢ j % n
entries_differ i j n h l e =
    by-test (ltb (i / n) (j / n))
    (λ q. omega (arith, mul-le-mul_right n (ltb-true (i / n) (j / n) q), div-add-mod' i n, div-add-mod' j n))
    (λ q. omega (arith, mul-le-mul_right n (ltb-false (i / n) (j / n) q), div-add-mod' i n, div-add-mod' j n))

-- section c is noted under the next number
module _ {n k : ℕ} {log last : List ℕ} {noted : ℕ → ℕ} (t : Notes n k log last noted) (c : ℕ) (there : c < n) (log_is : length log ≡ n) (last-is : length last ≡ n) where
  abbrev after : ℕ → ℕ
  after j = cond (eqb j (k + 1)) c (noted j)

  after_new : (j : ℕ) → j ≡ k + 1 → after j ≡ c
  after_new j e = rw (eq-eqb j (k + 1) e)

  after_old : (j : ℕ) → (j ≡ k + 1 → ⊥) → after j ≡ noted j
  after_old j h = rw (ne_eqb j (k + 1) h)

  last-here : get_or (set last c (k + 1)) c 0 ≡ k + 1
  last-here = get_or-set_same last c (k + 1) 0 (omega arith)

  last-there : (d : ℕ) → d ≢ c → get_or (set last c (k + 1)) d 0 ≡ get_or last d 0
  last-there d h = get_or-set_other last c d (k + 1) 0 h

  in_more : (j : ℕ) → 1 ≤ j → j ≤ k + 1 → after j < n
  in_more j h l =
      by-test (eqb j (k + 1))
      (λ q. rw (after_new j (eqb-true _ _ q)) there)
      (λ q. let p = eqb-false j (k + 1) q in rw (after_old j p) (t.noted_in j h (omega arith)))

  ring_more : (j : ℕ) → j < k + 1 → k + 1 ≤ j + n → get_or (set log (k % n) c) (j % n) 0 ≡ after (j + 1)
  ring_more j h l =
      by-test (eqb j k)
      (λ q.
      let p = eqb-true j k q in
      ap (λ (x : ℕ). get_or (set log (k % n) c) (x % n) 0) p
      ∙ get_or-set_same log (k % n) c 0 (rw log_is (mod-lt k (omega arith)))
      ∙ sym (after_new (j + 1) (omega arith)))
      (λ q.
      let p = eqb-false j k q in
      get_or-set_other log (k % n) (j % n) c 0 (entries_differ j k n (omega arith) (omega arith))
      ∙ t.ring j (omega arith) (omega arith)
      ∙ sym (after_old (j + 1) (λ e. omega arith)))

  noted_more : (d : ℕ) → 1 ≤ get_or (set last c (k + 1)) d 0 → (get_or (set last c (k + 1)) d 0 ≤ k + 1) × (after (get_or (set last c (k + 1)) d 0) ≡ d)
  noted_more d h =
      by-test (eqb d c)
      (λ q. let p = eqb-true d c q in rw (p, last-here) (omega arith, after_new (k + 1) refl))
      (λ q.
      let p = eqb-false d c q in
      let r = t.last-noted d (rw (last-there d p) at h) in
      rw (last-there d p) (omega (arith, r.0), after_old (get_or last d 0) (λ e. omega (arith, r.0)) ∙ r.1))

  most_more : (j : ℕ) → 1 ≤ j → j ≤ k + 1 → j ≤ get_or (set last c (k + 1)) (after j) 0
  most_more j h l =
      by-test (eqb j (k + 1))
      (λ q. let p = eqb-true j (k + 1) q in rw (after_new j p, last-here) (omega arith))
      (λ q.
      let p = eqb-false j (k + 1) q in
      let m = t.last-most j h (omega arith) in
      rw (after_old j p)
      (by-test (eqb (noted j) c)
      (λ r. rw (eqb-true (noted j) c r, last-here) l)
      (λ r. rw (last-there (noted j) (eqb-false (noted j) c r)) m)))

  pub notes_more : Notes n (k + 1) (set log (k % n) c) (set last c (k + 1)) (λ j. cond (eqb j (k + 1)) c (noted j))
  notes_more = record { noted_in = in_more; ring = ring_more; last-noted = noted_more; last-most = most_more }
