-- A form's parts read back.
use mathlib.Core.Path.{◌≡◌, refl, sym, ap, ◌∙◌}
use mathlib.Core.List.{List, [], ◌∷◌, ◌++◌, append_assoc}
use Prim.Native.Nat.{ℕ, ◌+◌, ◌*◌, ◌/◌, ◌%◌, ◌<◌}
use native.Mathlib.Omega.{arith}
use lib.ListN.{length, length-append}
use lib.IntN.{ℤ}
use borrow.Author.Tests.{lt-ltb}
use mir.Syntax.{w32}
use mir.Val.{SFits}
use Rattle.arith.specs.Level.{count_of, pattern_of}
use Rattle.stand.specs.Cells.{cell_of}
use Rattle.stand.specs.Shape.{Sized, Ranged, Shape, point_of}
use Rattle.arith.specs.Bytes.{double_bytes, short_at, short_bytes, signed_at, signed_of, word_at, word_bytes}
use Rattle.form.specs.Entries.{Entry, digest_with, entry_of}
use Rattle.form.specs.Form.{count_in, entries_at, entries_bytes, entries_in, entry_bytes, entry_in, form_of, head_bytes, head_shape, tail_bytes}
use Rattle.arith.proofs.bytes.Laws.{pattern_lt, short_back, short-past, signed_pattern, word_read}
use Rattle.form.specs.Inner.{Each}

-- what two bytes hold: section and index within u16, finish u16
pub record Small (e : Entry) : Type 0 where
  pub slot : e.slot < 268435456
  pub finish : e.finish < 65536

pub entry_bytes_read : (e : Entry) (r : List ℕ) → Small e → entry_in (entry_bytes e ++ r) 0 ≡ e
unfolding entry_in entry_bytes short_at short_bytes
entry_bytes_read e r s =
    let x = short_back (e.slot / 4096) (omega (arith, s.slot)) in
    let y = short_back (e.slot % 4096) (omega arith) in
    let z : (e.slot / 4096 % 256 + 256 * (e.slot / 4096 / 256 % 256)) * 4096 + (e.slot % 4096 % 256 + 256 * (e.slot % 4096 / 256 % 256)) ≡ e.slot = rw (x, y) (omega arith) in
    λ i. entry_of (z i) (short_back e.finish s.finish i)

pub entry_past : (p r : List ℕ) (k : ℕ) → entry_in (p ++ r) (length p + k) ≡ entry_in r k
unfolding entry_in
entry_past p r k =
    λ i. entry_of (at 1 i * 4096 + at 3 i) (at 5 i)
  where
    at : (j : ℕ) → short_at (p ++ r) (length p + k + j) ≡ short_at r (k + j)
    at j = let e : length p + k + j ≡ length p + (k + j) = omega arith in ap (short_at (p ++ r)) e ∙ short-past p r (k + j)

pub entry_length : (e : Entry) → length (entry_bytes e) ≡ 7
unfolding entry_bytes short_bytes
entry_length e = refl

pub entries_back : (es : List Entry) (p t : List ℕ) → Each Small es → entries_at (p ++ (entries_bytes es ++ t)) (length p) (length es) ≡ es
unfolding entries_at entries_bytes
entries_back [] p t h = refl
entries_back (e ∷ es) p t h =
    let r : List ℕ = entries_bytes es ++ t in
    let q : p ++ ((entry_bytes e ++ entries_bytes es) ++ t) ≡ (p ++ entry_bytes e) ++ r =
    ap (λ (l : List ℕ). p ++ l) (append_assoc (entry_bytes e) (entries_bytes es) t) ∙ sym (append_assoc p (entry_bytes e) r) in
    let n : length (p ++ entry_bytes e) ≡ length p + 7 = length-append p (entry_bytes e) ∙ ap (λ (k : ℕ). length p + k) (entry_length e) in
    let z : length p ≡ length p + 0 = omega arith in
    let a : entry_in (p ++ ((entry_bytes e ++ entries_bytes es) ++ t)) (length p) ≡ e =
    ap (λ (l : List ℕ). entry_in (p ++ l) (length p)) (append_assoc (entry_bytes e) (entries_bytes es) t)
    ∙ ap (entry_in (p ++ (entry_bytes e ++ r))) z ∙ entry_past p (entry_bytes e ++ r) 0 ∙ entry_bytes_read e r h.0 in
    let b : entries_at (p ++ ((entry_bytes e ++ entries_bytes es) ++ t)) (length p + 7) (length es) ≡ es =
    (λ i. entries_at (q i) (sym n i) (length es)) ∙ entries_back es (p ++ entry_bytes e) t h.1 in
    λ i. a i ∷ b i

-- ---- the head

count-back : (n : ℕ) → n < 2147483648 → count_of (signed_of n) ≡ n
unfolding signed_of
count-back n h = rw (lt-ltb n 2147483648 h)

origin-back : (z : ℤ) → SFits w32 z → signed_of (word_at (word_bytes (pattern_of z) ++ []) 0) ≡ z
origin-back z f = ap signed_of (word_read (pattern_of z) [] (pattern_lt z f)) ∙ signed_pattern z f

size_back : (n : ℕ) → n < 2147483648 → count_of (signed_of (word_at (word_bytes n ++ []) 0)) ≡ n
size_back n h = ap (λ (m : ℕ). count_of (signed_of m)) (word_read n [] (omega arith)) ∙ count-back n h

pub head_length : (g : Shape) → length (head_bytes g) ≡ 25
unfolding head_bytes word_bytes short_bytes
head_length g = refl

pub head_back : (g : Shape) (r : List ℕ) → Ranged g.origin → Sized g.size → head_shape (head_bytes g ++ r) ≡ g
unfolding head_shape signed_at word_at short_at head_bytes word_bytes short_bytes
head_back g r o s =
    λ i. record {
      origin = cell_of (origin-back g.origin.x o.x i) (origin-back g.origin.y o.y i) (origin-back g.origin.z o.z i);
      size = point_of (size_back g.size.x s.x i) (size_back g.size.y s.y i) (size_back g.size.z s.z i);
    }

-- ---- a form's length, and its parts

pub entries_length : (es : List Entry) → length (entries_bytes es) ≡ length es * 7
unfolding entries_bytes
entries_length [] = refl
entries_length (e ∷ es) = length-append (entry_bytes e) (entries_bytes es) ∙ omega (arith, entry_length e, entries_length es)

tail_length : (d : ℕ) → length (tail_bytes d) ≡ 9
unfolding tail_bytes double_bytes word_bytes short_bytes
tail_length d = refl

pub form-length : (g : Shape) (es : List Entry) → length (form_of g es) ≡ 34 + length es * 7
unfolding form_of
form-length g es =
    length-append (head_bytes g) (entries_bytes es ++ tail_bytes (digest_with g es))
    ∙ omega (arith, head_length g, length-append (entries_bytes es) (tail_bytes (digest_with g es)), entries_length es, tail_length (digest_with g es))

pub count-form : (g : Shape) (es : List Entry) → count_in (form_of g es) ≡ length es
unfolding count_in
count-form g es = omega (arith, form-length g es)

pub entries_form : (g : Shape) (es : List Entry) → Each Small es → entries_in (form_of g es) ≡ es
unfolding entries_in form_of
entries_form g es h =
    (λ i. entries_at (head_bytes g ++ (entries_bytes es ++ tail_bytes (digest_with g es))) (sym (head_length g) i) (count-form g es i))
    ∙ entries_back es (head_bytes g) (tail_bytes (digest_with g es)) h

-- equal forms are of one shape and of the same entries
pub form_inj : (g h : Shape) (xs ys : List Entry) → Ranged g.origin → Ranged h.origin → Sized g.size → Sized h.size → Each Small xs → Each Small ys
    → form_of g xs ≡ form_of h ys → (g ≡ h) × (xs ≡ ys)
unfolding form_of
form_inj g h xs ys rg rh sg sh ex ey e = (
  sym (head_back g _ rg sg) ∙ ap head_shape e ∙ head_back h _ rh sh,
  sym (entries_form g xs ex) ∙ ap entries_in e ∙ entries_form h ys ey,
)
