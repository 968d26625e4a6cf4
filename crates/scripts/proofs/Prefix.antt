-- A call is decoded from its own bytes.
use Rattle.std.specs.Prelude.{Some, None}
use mathlib.Core.Path.{◌≡◌, refl, sym, ap, ◌∙◌, subst}
use mathlib.Core.Bool.{true, false}
use mathlib.Core.List.{List}
use Prim.Native.Nat.{ℕ, ◌+◌, ◌≤◌, ◌<◌, max}
use native.Mathlib.Omega.{arith}
use borrow.Author.Tests.{eqb-false, eqb-true, le-leb, leb-false, leb-true, lt-leb, lt-ltb}
use lib.Dec.{eqb, leb}
use lib.ListN.{length, length-take, take}
use lib.Seq.{get_or-take}
use Rattle.stand.proofs.Tests.{by-test}
use Rattle.arith.specs.Bytes.{byte_at, short_at, signed_at, signed_of, word_at}
use Rattle.stand.specs.Extents.{extent_from}
use Rattle.interpreter.specs.Decode.{call_of, cell_at, decode_of, extent_at, length_of, whole}
use Rattle.interpreter.specs.declared.Call.TheVariants as K

-- ---- lists that agree on the first n bytes

module _ (b c : List ℕ) (n : ℕ) (same : (at : ℕ) → at < n → byte_at b at ≡ byte_at c at) where
  short-same : (at : ℕ) → at + 2 ≤ n → short_at b at ≡ short_at c at
  unfolding short_at
  short-same at h = omega (arith, same at (omega arith), same (at + 1) (omega arith))

  word_same : (at : ℕ) → at + 4 ≤ n → word_at b at ≡ word_at c at
  unfolding word_at
  word_same at h = omega (arith, short-same at (omega arith), short-same (at + 2) (omega arith))

  signed_same : (at : ℕ) → at + 4 ≤ n → signed_at b at ≡ signed_at c at
  unfolding signed_at
  signed_same at h = ap signed_of (word_same at h)

  cell_same : (at : ℕ) → at + 12 ≤ n → cell_at b at ≡ cell_at c at
  unfolding cell_at
  cell_same at h =
      λ i. record { x = signed_same at (omega arith) i; y = signed_same (at + 4) (omega arith) i; z = signed_same (at + 8) (omega arith) i }

  extent-same : (at : ℕ) → at + 12 ≤ n → extent_at b at ≡ extent_at c at
  unfolding extent_at
  extent-same at h = λ i. extent_from (cell_same at h i)

-- ---- the call of a kind

abbrev Same : ℕ → Type 0
Same k = (b c : List ℕ) → ((at : ℕ) → at < length_of k → byte_at b at ≡ byte_at c at) → call_of k b ≡ call_of k c

open_same : Same 1
unfolding call_of length_of
open_same b c s = λ i. K.Open (cell_same b c 25 s 1 (omega arith) i) (extent-same b c 25 s 13 (omega arith) i)

set_same : Same 2
unfolding call_of length_of
set_same b c s = λ i. K.Set (cell_same b c 15 s 1 (omega arith) i) (short-same b c 15 s 13 (omega arith) i)

fill-same : Same 3
unfolding call_of length_of
fill-same b c s = λ i. K.Fill (cell_same b c 27 s 1 (omega arith) i) (cell_same b c 27 s 13 (omega arith) i) (short-same b c 27 s 25 (omega arith) i)

refresh-same : Same 4
unfolding call_of
refresh-same b c s = refl

rate_same : Same 5
unfolding call_of length_of
rate_same b c s = λ i. K.Rate (short-same b c 7 s 1 (omega arith) i) (word_same b c 7 s 3 (omega arith) i)

cut-same : Same 6
unfolding call_of length_of
cut-same b c s = λ i. K.Cut (word_same b c 5 s 1 (omega arith) i)

module _ (k : ℕ) where
  no_kind : eqb k 1 ≡ false → eqb k 2 ≡ false → eqb k 3 ≡ false → eqb k 4 ≡ false → eqb k 5 ≡ false → eqb k 6 ≡ false → length_of k ≡ 0
  unfolding length_of
  no_kind n1 n2 n3 n4 n5 n6 = rw (n1, n2, n3, n4, n5, n6)

  of_kind : (j : ℕ) → Same j → eqb k j ≡ true → Same k
  of_kind j s e = subst Same (sym (eqb-true k j e)) s

  call_same : 0 < length_of k → Same k
  call_same h =
      by-test (eqb k 1) (of_kind 1 open_same) (λ n1.
      by-test (eqb k 2) (of_kind 2 set_same) (λ n2.
      by-test (eqb k 3) (of_kind 3 fill-same) (λ n3.
      by-test (eqb k 4) (of_kind 4 refresh-same) (λ n4.
      by-test (eqb k 5) (of_kind 5 rate_same) (λ n5.
      by-test (eqb k 6) (of_kind 6 cut-same) (λ n6. absurd (omega (arith, no_kind n1 n2 n3 n4 n5 n6))))))))

-- ---- the bytes of a call

module _ (b : List ℕ) where
  broken_kind : length_of (byte_at b 0) ≡ 0 → decode_of b ≡ None
  unfolding decode_of whole
  broken_kind e = rw e

  broken_short : length b < length_of (byte_at b 0) → decode_of b ≡ None
  unfolding decode_of whole
  broken_short h = rw (lt-ltb 0 (length_of (byte_at b 0)) (omega arith), lt-leb (length_of (byte_at b 0)) (length b) h)

  is_whole : 0 < length_of (byte_at b 0) → length_of (byte_at b 0) ≤ length b → decode_of b ≡ Some (call_of (byte_at b 0) b)
  unfolding decode_of whole
  is_whole p h = rw (lt-ltb 0 (length_of (byte_at b 0)) p, le-leb (length_of (byte_at b 0)) (length b) h)

module _ (b : List ℕ) where
  abbrev size : ℕ
  size = length_of (byte_at b 0)

  abbrev own : List ℕ
  own = take (max 1 size) b

  kind_same : byte_at own 0 ≡ byte_at b 0
  kind_same = get_or-take (max 1 size) b 0 0 (omega arith)

  size_same : length_of (byte_at own 0) ≡ size
  size_same = ap length_of kind_same

  whole_same : 0 < size → size ≤ length b → decode_of own ≡ decode_of b
  whole_same p h =
      is_whole own (omega (arith, size_same)) (omega (arith, size_same, length-take (max 1 size) b))
      ∙ ap Some (ap (λ k. call_of k own) kind_same ∙ call_same (byte_at b 0) p own b (λ at l. get_or-take (max 1 size) b at 0 (omega arith)))
      ∙ sym (is_whole b p h)

  short_broken : length b < size → decode_of own ≡ decode_of b
  short_broken h = broken_short own (omega (arith, size_same, length-take (max 1 size) b)) ∙ sym (broken_short b h)

  none_broken : size ≡ 0 → decode_of own ≡ decode_of b
  none_broken e = broken_kind own (size_same ∙ e) ∙ sym (broken_kind b e)

  pub own-bytes : decode_of own ≡ decode_of b
  own-bytes =
      by-test (eqb size 0) (λ e. none_broken (eqb-true size 0 e)) (λ n.
      let d = eqb-false size 0 n in
      by-test (leb size (length b)) (λ e. whole_same (omega arith) (leb-true size (length b) e)) (λ e. short_broken (leb-false size (length b) e)))
