-- Runs of bytes written one after the other, and a number's bytes.
use Rattle.std.proofs.Common.{◌≡◌, ℕ, suc, ◌+◌, ◌-◌, ◌/◌, ◌%◌, ◌≤◌, List, [], ◌∷◌, ◌++◌, length, take, set, sym, ap, ◌∙◌, append_assoc, arith, true, ℤ, pos, negsuc, of_z, to_z, w32, w64}
use borrow.Rule.Slice.PartMut.{Post-is, put_mid}
use lib.Seq.{sets, sets-eq}
use mir.ValLaws.{to_z-of_z}
use Rattle.std.specs.Int.{to_le_bytes}
use Rattle.std.specs.Prelude.{FitsSigned}
use Rattle.arith.specs.Bytes.{double_bytes, short_bytes, word_bytes}
use Rattle.arith.specs.Level.{count_of, pattern_of}
use Rattle.stand.specs.Shape.{Ranged, counts_of, shape_of, well_formed}
use Rattle.stand.specs.declared.volume.Extent.{Extent}
use Rattle.stand.specs.declared.volume.Volume.{Volume}
use Rattle.stand.proofs.Shape.{goods}
use Rattle.form.specs.Form.{head_bytes}
use Rattle.form.specs.Inner.{three_bytes}

-- a part lent and copied into
pub put_in : (out : List ℕ) (at : ℕ) {ys bytes : List ℕ} → ys ≡ bytes → at + length bytes ≤ length out → put_mid at (at + length bytes - at) out ys ≡ sets out at bytes
put_in out at {ys} {bytes} e h =
    (λ i. take at out ++ (e i ++ Post-is at (at + length bytes) out (omega arith) i))
    ∙ sym (append_assoc (take at out) bytes _) ∙ sym (sets-eq bytes out at h)

pub sets_append : (xs ys l : List ℕ) (i j : ℕ) → j ≡ i + length xs → sets (sets l i xs) j ys ≡ sets l i (xs ++ ys)
sets_append [] ys l i j e = let z : j ≡ i = omega arith in ap (λ (k : ℕ). sets l k ys) z
sets_append (x ∷ xs) ys l i j e = sets_append xs ys (set l i x) (suc i) j (omega arith)

-- ---- bytes, the lowest first

byte_of : (n a b c d : ℕ) → a ≡ n % 65536 % 256 → b ≡ n % 65536 / 256 % 256 → c ≡ n / 65536 % 256 → d ≡ n / 65536 / 256 % 256 → a ∷ b ∷ c ∷ d ∷ [] ≡ word_bytes n
unfolding word_bytes short_bytes
byte_of n a b c d ea eb ec ed = λ i. ea i ∷ eb i ∷ ec i ∷ ed i ∷ []

pub word_le : (n : ℕ) → to_le_bytes w32 n ≡ word_bytes n
word_le n = byte_of n _ _ _ _ (omega arith) (omega arith) (omega arith) (omega arith)

pub double_le : (n : ℕ) → to_le_bytes w64 n ≡ double_bytes n
unfolding double_bytes
double_le n =
    let a : n % 256 ≡ n % 4294967296 % 256 = omega arith in
    let b : n / 256 % 256 ≡ n % 4294967296 / 256 % 256 = omega arith in
    let c : n / 65536 % 256 ≡ n % 4294967296 / 65536 % 256 = omega arith in
    let d : n / 16777216 % 256 ≡ n % 4294967296 / 16777216 % 256 = omega arith in
    let e : n / 1099511627776 % 256 ≡ n / 4294967296 / 256 % 256 = omega arith in
    let f : n / 281474976710656 % 256 ≡ n / 4294967296 / 65536 % 256 = omega arith in
    let g : n / 72057594037927936 % 256 ≡ n / 4294967296 / 16777216 % 256 = omega arith in
    (λ i. a i ∷ b i ∷ c i ∷ d i ∷ n / 4294967296 % 256 ∷ e i ∷ f i ∷ g i ∷ []) ∙ (λ i. word_le (n % 4294967296) i ++ word_le (n / 4294967296) i)

-- ---- the head

-- the bits of an i32 that a struct holds
bits_of : (z : ℤ) → FitsSigned w32 z → of_z w32 (to_z w32 (of_z w32 z)) ≡ of_z w32 z
bits_of z f = ap (of_z w32) (to_z-of_z w32 z f)

pattern_is : (z : ℤ) → FitsSigned w32 z → of_z w32 (to_z w32 (of_z w32 z)) ≡ pattern_of z
pattern_is (pos n) f = bits_of (pos n) f
pattern_is (negsuc n) f = bits_of (negsuc n) f

count_is : (z : ℤ) → FitsSigned w32 z → 1 ≤ count_of z → of_z w32 (to_z w32 (of_z w32 z)) ≡ count_of z
count_is (pos n) f h = bits_of (pos n) f
count_is (negsuc n) f h = absurd (omega arith)

pub record Sized (e : Extent) : Type 0 where
  pub x : FitsSigned w32 e.x
  pub y : FitsSigned w32 e.y
  pub z : FitsSigned w32 e.z

abbrev pub bits : ℤ → ℕ
bits z = of_z w32 (to_z w32 (of_z w32 z))

pub head_written : (v : Volume) (out : List ℕ) → well_formed v ≡ true → Ranged v.origin → Sized v.size → {a b c d e f : ℕ}
    → a ≡ bits v.origin.x → b ≡ bits v.origin.y → c ≡ bits v.origin.z → d ≡ bits v.size.x → e ≡ bits v.size.y → f ≡ bits v.size.z
    → sets (sets (set out 0 1) 1 (three_bytes a b c)) 13 (three_bytes d e f) ≡ sets out 0 (head_bytes (shape_of v))
unfolding head_bytes shape_of three_bytes well_formed word_bytes short_bytes
head_written v out ok o n ea eb ec ed ee ef =
    let g = goods v.origin (counts_of v.size) (counts_of v.chunks) ok in
    let x = v.origin in
    let m = v.size in
    (λ i. sets out 0 (1 ∷ (three_bytes ((ea ∙ pattern_is x.x o.x) i) ((eb ∙ pattern_is x.y o.y) i) ((ec ∙ pattern_is x.z o.z) i)
    ++ three_bytes ((ed ∙ count_is m.x n.x g.x.some) i) ((ee ∙ count_is m.y n.y g.y.some) i) ((ef ∙ count_is m.z n.z g.z.some) i))))
