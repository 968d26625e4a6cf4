-- What store writes is a form that load takes.
use mathlib.Core.Path.{◌≡◌, refl, sym, ap, subst, ◌∙◌}
use mathlib.Core.Bool.{true}
use mathlib.Core.List.{List, [], ◌∷◌, ◌++◌, append_assoc, append-nil}
use Prim.Native.Nat.{ℕ, suc, ◌+◌, ◌-◌, ◌*◌, ◌/◌, ◌%◌, ◌<◌, ◌^◌}
use native.Mathlib.Omega.{arith}
use lib.ListN.{length, length-append, replicate}
use lib.Seq.{get_or-append-add}
use borrow.Author.Tests.{eq-eqb, le-leb, lt-ltb}
use Rattle.stand.specs.Shape.{Shape, sections}
use Rattle.stand.specs.Hash.{digest_of, digest_start, shape_words}
use Rattle.stand.specs.Storage.{volume_of}
use Rattle.stand.proofs.Hash.{folds_lt}
use Rattle.arith.specs.Bytes.{byte_at, double_at, double_bytes, short_at, short_bytes}
use Rattle.form.specs.Entries.{Entry, digest_with, mixed}
use Rattle.form.specs.Form.{entries_bytes, entry_bytes, entry_in, form_of, good_from, good_in, head_bytes, tail_bytes, valid}
use Rattle.arith.proofs.bytes.Laws.{double_past, double_read, short_back, short-past}
use Rattle.form.proofs.Entries.{Own}
use Rattle.form.specs.Inner.{Asc, Each}
use Rattle.form.proofs.Reading.{Small, count-form, entries_form, entries_length, entry_bytes_read, entry_length, entry_past, form-length, head_length}

module _ (e : Entry) (r : List ℕ) (s : Small e) where
  kind_of : byte_at (entry_bytes e ++ r) 0 ≡ 2
  unfolding entry_bytes
  kind_of = refl

  section_of : short_at (entry_bytes e ++ r) 1 ≡ e.slot / 4096
  unfolding entry_bytes short_at short_bytes
  section_of = short_back (e.slot / 4096) (omega (arith, s.slot))

  within_of : short_at (entry_bytes e ++ r) 3 ≡ e.slot % 4096
  unfolding entry_bytes short_at short_bytes
  within_of = short_back (e.slot % 4096) (omega arith)

  finish_of : short_at (entry_bytes e ++ r) 5 ≡ e.finish
  unfolding entry_bytes short_at short_bytes
  finish_of = short_back e.finish s.finish

some : (n : ℕ) → (n ≡ 0 → ⊥) → 0 < n
some n h = omega arith

own-good : (g : Shape) (e : Entry) (p r : List ℕ) → Small e → Own g e → good_in g (p ++ (entry_bytes e ++ r)) (length p) ≡ true
unfolding good_in
own-good g e p r s o =
    let f = p ++ (entry_bytes e ++ r) in
    let n : length p ≡ length p + 0 = omega arith in
    let kind : byte_at f (length p) ≡ 2 = ap (byte_at f) n ∙ get_or-append-add p (entry_bytes e ++ r) 0 0 ∙ kind_of e r s in
    let sec : short_at f (length p + 1) ≡ e.slot / 4096 = short-past p (entry_bytes e ++ r) 1 ∙ section_of e r s in
    let ind : short_at f (length p + 3) ≡ e.slot % 4096 = short-past p (entry_bytes e ++ r) 3 ∙ within_of e r s in
    let fin : short_at f (length p + 5) ≡ e.finish = short-past p (entry_bytes e ++ r) 5 ∙ finish_of e r s in
    let ent : entry_in f (length p) ≡ e = ap (entry_in f) n ∙ entry_past p (entry_bytes e ++ r) 0 ∙ entry_bytes_read e r s in
    rw (kind, sec, ind, fin, ent)
    (rw (le-leb (e.slot % 4096) 4095 (omega arith), lt-ltb 0 e.finish (some e.finish o.filled), lt-ltb (e.slot / 4096) (sections g) (omega (arith, o.below)), o.inside_it))

pub own-good-all : (g : Shape) (es : List Entry) (p t : List ℕ) (k : ℕ) → Each Small es → Each (Own g) es → Asc k es
    → good_from g (p ++ (entries_bytes es ++ t)) (length p) k (length es) ≡ true
unfolding good_from entries_bytes
own-good-all g [] p t k s o a = refl
own-good-all g (e ∷ es) p t k s o a =
    let r : List ℕ = entries_bytes es ++ t in
    let q : p ++ (entries_bytes (e ∷ es) ++ t) ≡ p ++ (entry_bytes e ++ r) = ap (λ (l : List ℕ). p ++ l) (append_assoc (entry_bytes e) (entries_bytes es) t) in
    let q2 : p ++ (entry_bytes e ++ r) ≡ (p ++ entry_bytes e) ++ r = sym (append_assoc p (entry_bytes e) r) in
    let n : length (p ++ entry_bytes e) ≡ length p + 7 = length-append p (entry_bytes e) ∙ ap (λ (k : ℕ). length p + k) (entry_length e) in
    let z : length p ≡ length p + 0 = omega arith in
    let ent : entry_in (p ++ (entry_bytes e ++ r)) (length p) ≡ e = ap (entry_in (p ++ (entry_bytes e ++ r))) z ∙ entry_past p (entry_bytes e ++ r) 0 ∙ entry_bytes_read e r s.0 in
    let rest : good_from g (p ++ (entry_bytes e ++ r)) (length p + 7) (suc e.slot) (length es) ≡ true =
    (λ i. good_from g (q2 i) (sym n i) (suc e.slot) (length es)) ∙ own-good-all g es (p ++ entry_bytes e) t (suc e.slot) s.1 o.1 a.1 in
    subst (λ (f : List ℕ). good_from g f (length p) k (suc (length es)) ≡ true) (sym q) (rw (own-good g e p r s.0 o.0, ent, le-leb k e.slot a.0) rest)

-- the digest is a word
start-lt : digest_start < 2 ^ 64
unfolding digest_start
start-lt = omega arith

digest-lt : (g : Shape) (es : List Entry) → digest_with g es < 2 ^ 64
unfolding digest_with digest_of
digest-lt g es = folds_lt digest_start (shape_words (volume_of g 0 0) ++ mixed es (replicate (sections g) 0)) start-lt

module _ (g : Shape) (es : List Entry) where
  -- what comes before the digest's record
  front : List ℕ
  front = head_bytes g ++ entries_bytes es

  front_length : length front ≡ 25 + length es * 7
  unfolding front
  front_length = length-append (head_bytes g) (entries_bytes es) ∙ omega (arith, head_length g, entries_length es)

  parts : form_of g es ≡ front ++ tail_bytes (digest_with g es)
  unfolding front form_of
  parts = sym (append_assoc (head_bytes g) (entries_bytes es) (tail_bytes (digest_with g es)))

  tail_kind : byte_at (form_of g es) (25 + length es * 7) ≡ 0
  unfolding tail_bytes
  tail_kind =
      let n : 25 + length es * 7 ≡ length front + 0 = omega (arith, front_length) in
      (λ i. byte_at (parts i) (n i)) ∙ get_or-append-add front (tail_bytes (digest_with g es)) 0 0

  tail_digest : double_at (form_of g es) (26 + length es * 7) ≡ digest_with g es
  unfolding tail_bytes
  tail_digest =
      let n : 26 + length es * 7 ≡ length front + 1 = omega (arith, front_length) in
      (λ i. double_at (parts i) (n i)) ∙ double_past front (tail_bytes (digest_with g es)) 1
      ∙ double_past (0 ∷ []) (double_bytes (digest_with g es)) 0
      ∙ ap (λ (l : List ℕ). double_at l 0) (sym (append-nil (double_bytes (digest_with g es))))
      ∙ double_read (digest_with g es) [] (digest-lt g es)

  module _ (s : Each Small es) (o : Each (Own g) es) (a : Asc 0 es) where
    good-form : good_from g (form_of g es) 25 0 (length es) ≡ true
    unfolding form_of
    good-form =
        ap (λ (k : ℕ). good_from g (head_bytes g ++ (entries_bytes es ++ tail_bytes (digest_with g es))) k 0 (length es)) (sym (head_length g))
        ∙ own-good-all g es (head_bytes g) (tail_bytes (digest_with g es)) 0 s o a

    pub form-valid : valid g (form_of g es) ≡ true
    unfolding valid
    form-valid =
        let n = form-length g es in
        rw (count-form g es, entries_form g es s)
        (rw (
          le-leb 34 (length (form_of g es)) (omega arith),
          eq-eqb ((length (form_of g es) - 34) % 7) 0 (omega arith),
          good-form,
          eq-eqb (byte_at (form_of g es) (25 + length es * 7)) 0 tail_kind,
          eq-eqb (double_at (form_of g es) (26 + length es * 7)) (digest_with g es) tail_digest,
        ))
