-- Numbers and their bytes, each told by the other.
use Rattle.std.proofs.Common.{◌≡◌, ℕ, zero, suc, ◌+◌, ◌-◌, ◌*◌, ◌/◌, ◌%◌, ◌^◌, ◌<◌, ◌≤◌, Bool, true, false, cond, ◌&&◌, ltb, List, [], ◌∷◌, ◌++◌, length, drop, ℤ, pos, negsuc, sym, refl, ap, ◌∙◌, append_assoc, arith, drop-cons, get_or-append-add, w32, SFits, to_z, of_z, ltb-false, ltb-true, le-ltb, lt-ltb}
use mathlib.Core.Bool.{false≢true}
use lib.ListN.{get_or-eq_default}
use lib.Signed.{mag}
use Rattle.arith.proofs.Signed.{back}
use Rattle.arith.specs.Level.{count_of, pattern_of}
use Rattle.arith.specs.Bytes.{Bytes, byte_at, double_at, double_bytes, short_at, short_bytes, signed_of, word_at, word_bytes}

-- ---- a list that is written out

abbrev pub all_bytes : List ℕ → Bool
all_bytes [] = true
all_bytes (x ∷ xs) = ltb x 256 && all_bytes xs

pub bytes_so : (f : List ℕ) → all_bytes f ≡ true → Bytes f
bytes_so [] = λ e i. omega arith
bytes_so (x ∷ xs) = by (ltb x 256) refl (bytes_so xs)
  where
    by : (t : Bool) → ltb x 256 ≡ t → (all_bytes xs ≡ true → Bytes xs) → (t && all_bytes xs) ≡ true → Bytes (x ∷ xs)
    by true q h e zero = ltb-true x 256 q
    by true q h e (suc i) = h e i
    by false q h e i = absurd (false≢true e)

-- ---- a number from its bytes

pub short_back : (n : ℕ) → n < 65536 → n % 256 + 256 * (n / 256 % 256) ≡ n
short_back n h = omega arith

-- read from where it was written
pub word_read : (n : ℕ) (r : List ℕ) → n < 4294967296 → word_at (word_bytes n ++ r) 0 ≡ n
unfolding word_at word_bytes short_at short_bytes
word_read n r h =
    let a = short_back (n % 65536) (omega arith) in
    let b = short_back (n / 65536) (omega arith) in
    omega arith

pub double_read : (n : ℕ) (r : List ℕ) → n < 2 ^ 64 → double_at (double_bytes n ++ r) 0 ≡ n
unfolding double_at double_bytes word_at word_bytes short_at short_bytes
double_read n r h =
    let a = word_read (n % 4294967296) [] (omega arith) in
    let b = word_read (n / 4294967296) [] (omega arith) in
    omega arith

-- ---- past a prefix

pub short-past : (p r : List ℕ) (k : ℕ) → short_at (p ++ r) (length p + k) ≡ short_at r k
unfolding short_at
short-past p r k =
    let e : length p + k + 1 ≡ length p + (k + 1) = omega arith in
    λ i. get_or-append-add p r k 0 i + 256 * (ap (λ (n : ℕ). byte_at (p ++ r) n) e ∙ get_or-append-add p r (k + 1) 0) i

pub word-past : (p r : List ℕ) (k : ℕ) → word_at (p ++ r) (length p + k) ≡ word_at r k
unfolding word_at
word-past p r k =
    let e : length p + k + 2 ≡ length p + (k + 2) = omega arith in
    λ i. short-past p r k i + 65536 * (ap (short_at (p ++ r)) e ∙ short-past p r (k + 2)) i

pub double_past : (p r : List ℕ) (k : ℕ) → double_at (p ++ r) (length p + k) ≡ double_at r k
unfolding double_at
double_past p r k =
    let e : length p + k + 4 ≡ length p + (k + 4) = omega arith in
    λ i. word-past p r k i + 4294967296 * (ap (word_at (p ++ r)) e ∙ word-past p r (k + 4)) i

-- ---- bytes written as they were read

high_byte : (x y : ℕ) → x < 256 → y < 256 → y ≡ (x + 256 * y) / 256 % 256
high_byte x y a b =
    let d : (x + 256 * y) / 256 ≡ y = omega arith in
    rw d (omega arith)

module _ (f : List ℕ) (b : Bytes f) where
  pub short-lt : (at : ℕ) → short_at f at < 65536
  unfolding short_at
  short-lt at = omega (arith, b at, b (at + 1))

  pub word_lt : (at : ℕ) → word_at f at < 4294967296
  unfolding word_at
  word_lt at = omega (arith, short-lt at, short-lt (at + 2))

  pub short-written : (at : ℕ) → at + 2 ≤ length f → drop at f ≡ short_bytes (short_at f at) ++ drop (at + 2) f
  unfolding short_bytes short_at
  short-written at h =
      let x = b at in
      let y = b (at + 1) in
      let p : byte_at f at ≡ (byte_at f at + 256 * byte_at f (at + 1)) % 256 = omega arith in
      let q = high_byte (byte_at f at) (byte_at f (at + 1)) x y in
      let s : suc at ≡ at + 1 = omega arith in
      let t : suc (at + 1) ≡ at + 2 = omega arith in
      drop-cons f at 0 (omega arith)
      ∙ ap (λ (n : ℕ). byte_at f at ∷ drop n f) s
      ∙ ap (λ (l : List ℕ). byte_at f at ∷ l) (drop-cons f (at + 1) 0 (omega arith))
      ∙ (λ i. p i ∷ q i ∷ drop (t i) f)

  pub word-written : (at : ℕ) → at + 4 ≤ length f → drop at f ≡ word_bytes (word_at f at) ++ drop (at + 4) f
  unfolding word_bytes word_at
  word-written at h =
      let x = short-lt at in
      let y = short-lt (at + 2) in
      let p : short_at f at ≡ (short_at f at + 65536 * short_at f (at + 2)) % 65536 = omega arith in
      let q : short_at f (at + 2) ≡ (short_at f at + 65536 * short_at f (at + 2)) / 65536 = omega arith in
      let t : at + 2 + 2 ≡ at + 4 = omega arith in
      short-written at (omega arith)
      ∙ ap (λ (l : List ℕ). short_bytes (short_at f at) ++ l) (short-written (at + 2) (omega arith))
      ∙ (λ i. short_bytes (p i) ++ (short_bytes (q i) ++ drop (t i) f))
      ∙ sym (append_assoc (short_bytes _) (short_bytes _) (drop (at + 4) f))

  pub double_written : (at : ℕ) → at + 8 ≤ length f → drop at f ≡ double_bytes (double_at f at) ++ drop (at + 8) f
  unfolding double_bytes double_at
  double_written at h =
      let x = word_lt at in
      let y = word_lt (at + 4) in
      let p : word_at f at ≡ (word_at f at + 4294967296 * word_at f (at + 4)) % 4294967296 = omega arith in
      let q : word_at f (at + 4) ≡ (word_at f at + 4294967296 * word_at f (at + 4)) / 4294967296 = omega arith in
      let t : at + 4 + 4 ≡ at + 8 = omega arith in
      word-written at (omega arith)
      ∙ ap (λ (l : List ℕ). word_bytes (word_at f at) ++ l) (word-written (at + 4) (omega arith))
      ∙ (λ i. word_bytes (p i) ++ (word_bytes (q i) ++ drop (t i) f))
      ∙ sym (append_assoc (word_bytes _) (word_bytes _) (drop (at + 8) f))

-- ---- two's complement

pub pattern_lt : (z : ℤ) → SFits w32 z → pattern_of z < 4294967296
pattern_lt (pos n) f = omega (arith, f.sfits)
pattern_lt (negsuc n) f = omega (arith, f.sfits)

pub signed_pattern : (z : ℤ) → SFits w32 z → signed_of (pattern_of z) ≡ z
unfolding signed_of
signed_pattern (pos n) f = rw (lt-ltb n 2147483648 (omega (arith, f.sfits)))
signed_pattern (negsuc n) f = rw (le-ltb (4294967296 - suc n) 2147483648 (omega (arith, f.sfits))) (ap negsuc (omega (arith, f.sfits)))

pub pattern_signed : (n : ℕ) → n < 4294967296 → pattern_of (signed_of n) ≡ n
unfolding signed_of
pattern_signed n h = by (ltb n 2147483648) refl
  where
    by : (b : Bool) → ltb n 2147483648 ≡ b → pattern_of (cond b (pos n) (negsuc (4294967295 - n))) ≡ n
    by true e = refl
    by false e = let l = ltb-false n 2147483648 e in omega arith

pub count_signed : (n : ℕ) → 1 ≤ count_of (signed_of n) → count_of (signed_of n) ≡ n
unfolding signed_of
count_signed n = by (ltb n 2147483648)
  where
    by : (b : Bool) → 1 ≤ count_of (cond b (pos n) (negsuc (4294967295 - n))) → count_of (cond b (pos n) (negsuc (4294967295 - n))) ≡ n
    by true h = refl
    by false h = absurd (omega arith)

-- what four bytes hold is an i32
pub signed_fits : (n : ℕ) → n < 4294967296 → SFits w32 (signed_of n)
unfolding signed_of
signed_fits n h = by (ltb n 2147483648) refl
  where
    by : (b : Bool) → ltb n 2147483648 ≡ b → SFits w32 (cond b (pos n) (negsuc (4294967295 - n)))
    by true e = record { sfits = ltb-true n 2147483648 e }
    by false e = let l = ltb-false n 2147483648 e in record { sfits = omega arith }

-- ---- for the code: past the end, and what a call answered

pub byte_none : (f : List ℕ) (at : ℕ) → length f ≤ at → byte_at f at ≡ 0
byte_none f at h = get_or-eq_default f 0 h

pub short_none : (f : List ℕ) (at : ℕ) → length f ≤ at → 0 ≡ short_at f at
unfolding short_at
short_none f at h = omega (arith, byte_none f at h, byte_none f (at + 1) (omega arith))

pub word_none : (f : List ℕ) (at : ℕ) → length f ≤ at → 0 ≡ word_at f at
unfolding word_at
word_none f at h = omega (arith, short_none f at h, short_none f (at + 2) (omega arith))

pub double_none : (f : List ℕ) (at : ℕ) → length f ≤ at → 0 ≡ double_at f at
unfolding double_at
double_none f at h = omega (arith, word_none f at h, word_none f (at + 4) (omega arith))

-- what a call answered, read back
pub read : {z w : ℤ} → mag z < 2147483648 → z ≡ w → to_z w32 (of_z w32 z) ≡ w
read {z} h e = back z h ∙ e
