-- Laws of a line that is written a part at a time.
use mathlib.Core.Path.{◌≡◌, sym, ap, subst, ◌∙◌}
use mathlib.Core.List.{List, [], ◌∷◌, ◌++◌, append_assoc}
use Prim.Native.Nat.{ℕ, zero, suc, ◌+◌, ◌-◌, ◌/◌, ◌%◌, ◌^◌, ◌≤◌, ◌<◌}
use native.Mathlib.Nat.{le_trans, mod-eq_of_lt, pow-suc}
use native.Mathlib.Numerals.{add-one, sub-one}
use native.Mathlib.Omega.{arith}
use lib.ListN.{length, set, take, drop, length-set}
use lib.Seq.{take-suc-set, drop-set-lt, drop-drop}
use Rattle.std.proofs.lemmas.Slice.{take-put_mid, drop-put_mid}
use Rattle.interpreter.specs.Line.{decimal, digits_to, item, Appended}
use Rattle.io.proofs.Counting.{prefix_len_of_le}
use Rattle.io.specs.Digits.{last_digits, IsDigitCount}
use borrow.Author.Tests.{lt-ltb, le-ltb}
use borrow.Rule.Slice.PartMut.{mid_len, put_mid, same_len_mid}

-- ---- texts

-- one more byte
put : (d : List ℕ) (k v : ℕ) {s : List ℕ} → k < length d → take k d ≡ s → take (k + 1) (set d k v) ≡ s ++ (v ∷ [])
put d k v h e = ap (λ n. take n (set d k v)) (add-one k) ∙ take-suc-set d k v h ∙ ap (λ r. r ++ (v ∷ [])) e

-- a text copied to a place
pub copied : (s ys out : List ℕ) (at : ℕ) → at + length s ≤ length out → ys ≡ s → Appended s out at (put_mid at (at + length s - at) out ys) (at + length s)
copied s ys out at h e =
    let k : length ys ≡ at + length s - at = omega (arith, ap length e) in
    record {
      counts = prefix_len_of_le (at + length s) _ (omega (arith, same_len_mid at (at + length s - at) out ys (k ∙ sym (mid_len at (at + length s) out h))));
      on = omega arith;
      said = take-put_mid at _ out ys (at + length s) (omega arith) (omega arith) ∙ ap (λ r. take at out ++ r) e;
      rest = drop-put_mid at _ out ys (at + length s) (omega arith) (omega arith) k;
    }

-- lists that agree from m on agree from further on
further : (m n : ℕ) (xs ys : List ℕ) → m ≤ n → drop m xs ≡ drop m ys → drop n xs ≡ drop n ys
further m n xs ys h e =
    let s : m + (n - m) ≡ n = omega arith in
    subst (λ k. drop k xs ≡ drop k ys) s (sym (drop-drop (n - m) m xs) ∙ ap (drop (n - m)) e ∙ drop-drop (n - m) m ys)

-- a text behind a text
pub behind : {text₀ text before mid after : List ℕ} {at m r : ℕ} → Appended text₀ before at mid m → Appended text mid m after r
    → Appended (text₀ ++ text) before at after r
behind {text₀} {text} {before} {mid} {after} {at} {m} {r} a b = record {
  counts = b.counts;
  on = le_trans a.on b.on;
  said = b.said ∙ ap (λ t. t ++ text) a.said ∙ append_assoc (take at before) text₀ text;
  rest = b.rest ∙ further m r mid before b.on a.rest;
}

-- ---- numbers

pow_one : (r : ℕ) → 1 ≤ 10 ^ r
pow_one zero = omega arith
pow_one (suc r) = omega (arith, pow-suc 10 r, pow_one r)

spelled : (f r n : ℕ) → r < f → n < 10 ^ suc r → (0 < r → 10 ^ r ≤ n) → last_digits 10 (suc r) n ≡ digits_to f n
unfolding digits_to
spelled zero r n h b l = absurd (omega arith)
spelled (suc f) zero n h b l = rw (mod-eq_of_lt b, lt-ltb n 10 b)
spelled (suc f) (suc r) n h b l =
    let m : 10 ^ suc r ≤ n = l (omega arith) in
    rw (
      le-ltb n 10 (omega (arith, pow-suc 10 r, pow_one r)),
      lt-ltb (n % 10) 10 (omega arith),
      spelled f r (n / 10) (omega arith) (omega (arith, pow-suc 10 (suc r))) (λ p. omega (arith, pow-suc 10 r)),
    )

-- the kit's digits are those of the definition
digits_decimal : (k n : ℕ) → k ≤ 20 → IsDigitCount 10 1 n k → last_digits 10 k n ≡ decimal n
unfolding decimal
digits_decimal zero n h f = absurd (omega (arith, f.0))
digits_decimal (suc k) n h f = spelled 20 k n (omega arith) f.1 (λ p. rw (sub-one (suc k)) at (f.2 (omega arith)))

-- what `decimal` left, and then a byte
pub number_put : (out₀ out₁ d : List ℕ) (at k n v r : ℕ) → k ≤ 20 → IsDigitCount 10 1 n k → take k d ≡ last_digits 10 k n
    → Appended (take k d) out₀ at out₁ r → r < length out₁ → Appended (item n v) out₀ at (set out₁ r v) (r + 1)
unfolding item
number_put out₀ out₁ d at k n v r h f e a l = record {
  counts = prefix_len_of_le (r + 1) (set out₁ r v) (rw (length-set out₁ r v) (omega arith));
  on = omega (arith, a.on);
  said =
      put out₁ r v l a.said
      ∙ append_assoc (take at out₀) (take k d) (v ∷ [])
      ∙ ap (λ t. take at out₀ ++ (t ++ (v ∷ []))) (e ∙ digits_decimal k n h f);
  rest = drop-set-lt (r + 1) out₁ r v (omega arith) ∙ further r (r + 1) out₁ out₀ (omega arith) a.rest;
}
