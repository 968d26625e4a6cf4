-- A form that load takes is what store writes.
use mathlib.Core.Path.{◌≡◌, sym, ap, ◌∙◌}
use mathlib.Core.Bool.{true, ◌&&◌}
use mathlib.Core.List.{List, ◌∷◌, ◌++◌, append_assoc, append-nil}
use Prim.Native.Nat.{ℕ, zero, suc, ◌+◌, ◌*◌, ◌/◌, ◌%◌, ◌<◌, ◌≤◌}
use native.Mathlib.Omega.{arith}
use lib.Dec.{leb}
use lib.ListN.{drop, length, replicate}
use lib.Seq.{drop-cons, drop-length}
use Rattle.arith.specs.Level.{count_of, pattern_of}
use Rattle.stand.specs.Shape.{Shape, sections}
use Rattle.stand.proofs.Tests.{both}
use Rattle.arith.specs.Bytes.{Bytes, byte_at, double_bytes, short_at, short_bytes, signed_at, word_at, word_bytes}
use Rattle.form.specs.Entries.{digest_with, entries_of, placed}
use Rattle.form.specs.Form.{count_in, entries_at, entries_bytes, entries_in, entry_bytes, entry_in, form_of, good_from, good_in, has_head, head_bytes, head_shape, tail_bytes, valid}
use Rattle.arith.proofs.bytes.Laws.{count_signed, double_written, pattern_signed, short-lt, short-written, word_lt, word-written}
use Rattle.form.proofs.Entries.{Own, each_so, entries_placed}
use Rattle.form.specs.Inner.{Asc, Each}
use Rattle.form.proofs.Reading.{Small}
use Rattle.form.proofs.check.Laws.{Good, Headed, Valid, from_each, good_parts, headed, valid_parts}

module _ (g : Shape) (f : List ℕ) (b : Bytes f) where
  -- the record at a place, as written
  entry_written : (at : ℕ) → at + 7 ≤ length f → byte_at f at ≡ 2 → short_at f (at + 3) < 4096 → drop at f ≡ entry_bytes (entry_in f at) ++ drop (at + 7) f
  unfolding entry_bytes entry_in
  entry_written at h k w =
      let x = short_at f (at + 1) in
      let y = short_at f (at + 3) in
      let p : x ≡ (x * 4096 + y) / 4096 = omega arith in
      let q : y ≡ (x * 4096 + y) % 4096 = omega arith in
      let i1 : suc at ≡ at + 1 = omega arith in
      let i2 : at + 1 + 2 ≡ at + 3 = omega arith in
      let i3 : at + 3 + 2 ≡ at + 5 = omega arith in
      let i4 : at + 5 + 2 ≡ at + 7 = omega arith in
      drop-cons f at 0 (omega arith)
      ∙ (λ i. k i ∷ drop (i1 i) f)
      ∙ ap (λ (l : List ℕ). 2 ∷ l) (short-written f b (at + 1) (omega arith)
      ∙ ap (λ (l : List ℕ). short_bytes x ++ l) (ap (λ (n : ℕ). drop n f) i2 ∙ short-written f b (at + 3) (omega arith))
      ∙ ap (λ (l : List ℕ). short_bytes x ++ (short_bytes y ++ l)) (ap (λ (n : ℕ). drop n f) i3 ∙ short-written f b (at + 5) (omega arith) ∙ ap (λ (n : ℕ). short_bytes (short_at f (at + 5)) ++ drop n f) i4)
      ∙ (λ i. short_bytes (p i) ++ (short_bytes (q i) ++ (short_bytes (short_at f (at + 5)) ++ drop (at + 7) f))))
      ∙ ap (λ (l : List ℕ). 2 ∷ (short_bytes ((x * 4096 + y) / 4096) ++ l)) (sym (append_assoc (short_bytes ((x * 4096 + y) % 4096)) (short_bytes (short_at f (at + 5))) (drop (at + 7) f)))
      ∙ ap (λ (l : List ℕ). 2 ∷ l) (sym (append_assoc (short_bytes ((x * 4096 + y) / 4096)) (short_bytes ((x * 4096 + y) % 4096) ++ short_bytes (short_at f (at + 5))) (drop (at + 7) f)))

  good_small : sections g ≤ 65536 → (at : ℕ) → Good g f at → Own g (entry_in f at) × Small (entry_in f at)
  unfolding entry_in
  good_small few at h = (
    record { below = h.below; inside_it = h.there; filled = λ (n : short_at f (at + 5) ≡ 0). omega (arith, h.finish) },
    record { slot = omega (arith, h.below); finish = short-lt f b (at + 5) },
  )

  pub good-from : sections g ≤ 65536 → (n at next : ℕ) → good_from g f at next n ≡ true → Asc next (entries_at f at n) × Each (Own g) (entries_at f at n) × Each Small (entries_at f at n)
  good-from few n at next e =
      let r = from_each g f (λ e. Own g e × Small e) (good_small few) n at next e in
      (r.0, each_so (λ e. Own g e × Small e) (Own g) (λ e w. w.0) (entries_at f at n) r.1, each_so (λ e. Own g e × Small e) Small (λ e w. w.1) (entries_at f at n) r.1)

  entries_written : sections g ≤ 65536 → (n at next : ℕ) → at + n * 7 ≤ length f → good_from g f at next n ≡ true → drop at f ≡ entries_bytes (entries_at f at n) ++ drop (at + n * 7) f
  unfolding good_from entries_at entries_bytes
  entries_written few zero at next h e = let i : at ≡ at + 0 * 7 = omega arith in ap (λ (n : ℕ). drop n f) i
  entries_written few (suc n) at next h e =
      let rest = good_from g f (at + 7) (suc (entry_in f at).slot) n in
      let p = both (good_in g f at) (leb next (entry_in f at).slot && rest) e in
      let q = both (leb next (entry_in f at).slot) rest p.1 in
      let k = good_parts g f at p.0 in
      let i : at + 7 + n * 7 ≡ at + suc n * 7 = omega arith in
      entry_written at (omega arith) k.kind (omega (arith, k.within))
      ∙ ap (λ (l : List ℕ). entry_bytes (entry_in f at) ++ l) (entries_written few n (at + 7) (suc (entry_in f at).slot) (omega arith) q.1 ∙ ap (λ (m : ℕ). entries_bytes (entries_at f (at + 7) n) ++ drop m f) i)
      ∙ sym (append_assoc (entry_bytes (entry_in f at)) (entries_bytes (entries_at f (at + 7) n)) (drop (at + suc n * 7) f))

-- the parts of the two tests
pub record Whole (g : Shape) (f : List ℕ) : Type 0 where
  pub head : Headed f
  pub rest : Valid g f

pub whole-form : (g : Shape) (f : List ℕ) → has_head f ≡ true → valid g f ≡ true → Whole g f
whole-form g f h e = record { head = headed f h; rest = valid_parts g f e }

module _ (f : List ℕ) (b : Bytes f) (few : sections (head_shape f) ≤ 65536) (w : Whole (head_shape f) f) where
  long_enough : length f ≡ 34 + count_in f * 7
  unfolding count_in
  long_enough = omega (arith, w.rest.long, w.rest.even)

  number-written : (at : ℕ) → at + 4 ≤ length f → drop at f ≡ word_bytes (pattern_of (signed_at f at)) ++ drop (at + 4) f
  unfolding signed_at
  number-written at h = word-written f b at h ∙ ap (λ (n : ℕ). word_bytes n ++ drop (at + 4) f) (sym (pattern_signed (word_at f at) (word_lt f b at)))

  size-written : (at : ℕ) → at + 4 ≤ length f → 1 ≤ count_of (signed_at f at) → drop at f ≡ word_bytes (count_of (signed_at f at)) ++ drop (at + 4) f
  unfolding signed_at
  size-written at h l = word-written f b at h ∙ ap (λ (n : ℕ). word_bytes n ++ drop (at + 4) f) (sym (count_signed (word_at f at) l))

  head_written : f ≡ head_bytes (head_shape f) ++ drop 25 f
  unfolding head_shape head_bytes word_bytes short_bytes
  head_written =
      let n = long_enough in
      drop-cons f 0 0 (omega arith)
      ∙ (λ i. w.head.kind i ∷ drop 1 f)
      ∙ ap (λ (l : List ℕ). 1 ∷ l)
      (number-written 1 (omega arith)
      ∙ ap (λ (l : List ℕ). word_bytes (pattern_of (signed_at f 1)) ++ l) (number-written 5 (omega arith)
      ∙ ap (λ (l : List ℕ). word_bytes (pattern_of (signed_at f 5)) ++ l) (number-written 9 (omega arith)
      ∙ ap (λ (l : List ℕ). word_bytes (pattern_of (signed_at f 9)) ++ l) (size-written 13 (omega arith) w.head.x
      ∙ ap (λ (l : List ℕ). word_bytes (count_of (signed_at f 13)) ++ l) (size-written 17 (omega arith) w.head.y
      ∙ ap (λ (l : List ℕ). word_bytes (count_of (signed_at f 17)) ++ l) (size-written 21 (omega arith) w.head.z))))))

  end-written : drop (25 + count_in f * 7) f ≡ tail_bytes (digest_with (head_shape f) (entries_in f))
  unfolding tail_bytes
  end-written =
      let n = long_enough in
      let i1 : suc (25 + count_in f * 7) ≡ 26 + count_in f * 7 = omega arith in
      let i2 : 26 + count_in f * 7 + 8 ≡ length f = omega arith in
      drop-cons f (25 + count_in f * 7) 0 (omega arith)
      ∙ (λ i. w.rest.end i ∷ drop (i1 i) f)
      ∙ ap (λ (l : List ℕ). 0 ∷ l)
      (double_written f b (26 + count_in f * 7) (omega arith)
      ∙ (λ i. double_bytes (w.rest.digest i) ++ drop (i2 i) f)
      ∙ ap (λ (l : List ℕ). double_bytes (digest_with (head_shape f) (entries_in f)) ++ l) (drop-length f)
      ∙ append-nil (double_bytes (digest_with (head_shape f) (entries_in f))))

  -- a form that load takes is the form of the entries it holds
  pub form-back : form_of (head_shape f) (entries_in f) ≡ f
  unfolding form_of entries_in
  form-back =
      sym (head_written
      ∙ ap (λ (l : List ℕ). head_bytes (head_shape f) ++ l)
      (entries_written (head_shape f) f b few (count_in f) 25 0 (omega (arith, long_enough)) w.rest.good
      ∙ ap (λ (l : List ℕ). entries_bytes (entries_at f 25 (count_in f)) ++ l) end-written))

  -- and its entries are a stand's own
  pub form-own : Asc 0 (entries_in f) × Each (Own (head_shape f)) (entries_in f) × Each Small (entries_in f)
  unfolding entries_in
  form-own = good-from (head_shape f) f b few (count_in f) 25 0 w.rest.good

  -- stored again, what was loaded has the same bytes
  pub load_store : form_of (head_shape f) (entries_of (head_shape f) (placed (entries_in f) (replicate (sections (head_shape f) * 4096) 0))) ≡ f
  load_store = let o = form-own in ap (form_of (head_shape f)) (entries_placed (head_shape f) (entries_in f) o.0 o.1) ∙ form-back
