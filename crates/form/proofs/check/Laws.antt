-- The tests of a form, part by part, and one by one as the code has them.
use Rattle.std.proofs.Common.{◌≡◌, ℕ, zero, suc, ◌+◌, ◌-◌, ◌*◌, ◌%◌, ◌<◌, ◌≤◌, Bool, true, false, ◌&&◌, List, eqb, leb, ltb, length, ap, ◌∙◌, arith, le-leb, eqb-true, leb-true, ltb-true}
use mathlib.Core.Bool.{and-false}
use borrow.Author.Tests.{lt-leb}
use Rattle.stand.specs.Shape.{Shape, sections}
use Rattle.stand.proofs.Tests.{both}
use Rattle.arith.specs.Bytes.{byte_at, double_at, short_at}
use Rattle.form.specs.Entries.{Entry, digest_with, inside_at}
use Rattle.form.specs.Form.{count_in, entries_at, entries_in, entry_in, good_from, good_in, has_head, head_shape, valid}
use Rattle.form.specs.Inner.{Asc, Each, Ordered, record_at}

-- ---- each test apart

five : (a b c d e : Bool) → (a && (b && (c && (d && e)))) ≡ true → (a ≡ true) × (b ≡ true) × (c ≡ true) × (d ≡ true) × (e ≡ true)
five a b c d e h =
    let p = both a (b && (c && (d && e))) h in
    let q = both b (c && (d && e)) p.1 in
    let r = both c (d && e) q.1 in
    let t = both d e r.1 in
    (p.0, q.0, r.0, t.0, t.1)

pub record Headed (f : List ℕ) : Type 0 where
  pub kind : byte_at f 0 ≡ 1
  pub x : 1 ≤ (head_shape f).size.x
  pub y : 1 ≤ (head_shape f).size.y
  pub z : 1 ≤ (head_shape f).size.z

pub headed : (f : List ℕ) → has_head f ≡ true → Headed f
unfolding has_head
headed f e =
    let p = five (leb 25 (length f)) (eqb (byte_at f 0) 1) (leb 1 (head_shape f).size.x) (leb 1 (head_shape f).size.y) (leb 1 (head_shape f).size.z) e in
    record { kind = eqb-true (byte_at f 0) 1 p.1; x = leb-true 1 (head_shape f).size.x p.2; y = leb-true 1 (head_shape f).size.y p.3; z = leb-true 1 (head_shape f).size.z p.4 }

pub record Good (g : Shape) (f : List ℕ) (at : ℕ) : Type 0 where
  pub kind : byte_at f at ≡ 2
  pub within : short_at f (at + 3) ≤ 4095
  pub finish : 0 < short_at f (at + 5)
  pub below : (entry_in f at).slot < sections g * 4096
  pub there : inside_at g (entry_in f at).slot ≡ true

pub good_parts : (g : Shape) (f : List ℕ) (at : ℕ) → good_in g f at ≡ true → Good g f at
unfolding good_in entry_in
good_parts g f at e =
    let p = five (eqb (byte_at f at) 2) (leb (short_at f (at + 3)) 4095) (ltb 0 (short_at f (at + 5))) (ltb (short_at f (at + 1)) (sections g)) (inside_at g (entry_in f at).slot) e in
    let w = leb-true (short_at f (at + 3)) 4095 p.1 in
    let s = ltb-true (short_at f (at + 1)) (sections g) p.3 in
    record { kind = eqb-true (byte_at f at) 2 p.0; within = w; finish = ltb-true 0 (short_at f (at + 5)) p.2; below = omega arith; there = p.4 }

pub record Valid (g : Shape) (f : List ℕ) : Type 0 where
  pub long : 34 ≤ length f
  pub even : (length f - 34) % 7 ≡ 0
  pub good : good_from g f 25 0 (count_in f) ≡ true
  pub end : byte_at f (25 + count_in f * 7) ≡ 0
  pub digest : double_at f (26 + count_in f * 7) ≡ digest_with g (entries_in f)

pub valid_parts : (g : Shape) (f : List ℕ) → valid g f ≡ true → Valid g f
unfolding valid
valid_parts g f e =
    let p = five (leb 34 (length f)) (eqb ((length f - 34) % 7) 0) (good_from g f 25 0 (count_in f)) (eqb (byte_at f (25 + count_in f * 7)) 0) (eqb (double_at f (26 + count_in f * 7)) (digest_with g (entries_in f))) e in
    record {
      long = leb-true 34 (length f) p.0;
      even = eqb-true ((length f - 34) % 7) 0 p.1;
      good = p.2;
      end = eqb-true (byte_at f (25 + count_in f * 7)) 0 p.3;
      digest = eqb-true (double_at f (26 + count_in f * 7)) (digest_with g (entries_in f)) p.4;
    }

-- ---- records one after the other

module _ (g : Shape) (f : List ℕ) (n : ℕ) where
  turn : (k next : ℕ) → k < n → good_from g f (record_at k) next (n - k)
      ≡ (good_in g f (record_at k) && (leb next (entry_in f (record_at k)).slot && good_from g f (record_at (k + 1)) (suc (entry_in f (record_at k)).slot) (n - (k + 1))))
  unfolding good_from
  turn k next h =
      let s : n - k ≡ suc (n - (k + 1)) = omega arith in
      let p : record_at k + 7 ≡ record_at (k + 1) = omega arith in
      ap (good_from g f (record_at k) next) s
      ∙ ap (λ (a : ℕ). good_in g f (record_at k) && (leb next (entry_in f (record_at k)).slot && good_from g f a (suc (entry_in f (record_at k)).slot) (n - (k + 1)))) p

  pub from_bad : (k next : ℕ) → k < n → good_in g f (record_at k) ≡ false → good_from g f (record_at k) next (n - k) ≡ false
  from_bad k next h e = turn k next h ∙ rw e

  pub from_low : (k next : ℕ) → k < n → (entry_in f (record_at k)).slot < next → good_from g f (record_at k) next (n - k) ≡ false
  from_low k next h l = turn k next h ∙ rw (lt-leb next (entry_in f (record_at k)).slot l) (and-false (good_in g f (record_at k)))

  pub from_more : (k next : ℕ) → k < n → good_in g f (record_at k) ≡ true → next ≤ (entry_in f (record_at k)).slot
      → good_from g f (record_at k) next (n - k) ≡ good_from g f (record_at (k + 1)) ((entry_in f (record_at k)).slot + 1) (n - (k + 1))
  from_more k next h e l =
      let s : suc (entry_in f (record_at k)).slot ≡ (entry_in f (record_at k)).slot + 1 = omega arith in
      turn k next h ∙ rw (e, le-leb next (entry_in f (record_at k)).slot l) (ap (λ (a : ℕ). good_from g f (record_at (k + 1)) a (n - (k + 1))) s)

  pub from_all : (k next : ℕ) → n ≤ k → good_from g f (record_at k) next (n - k) ≡ true
  unfolding good_from
  from_all k next h = let z : n - k ≡ 0 = omega arith in ap (good_from g f (record_at k) next) z

-- what holds of the entry of each good record
pub from_each : (g : Shape) (f : List ℕ) (P : Entry → Type 0) → ((at : ℕ) → Good g f at → P (entry_in f at)) → (n at next : ℕ) → good_from g f at next n ≡ true
    → Asc next (entries_at f at n) × Each P (entries_at f at n)
unfolding good_from entries_at
from_each g f P h zero at next e = (tt, tt)
from_each g f P h (suc n) at next e =
    let rest = good_from g f (at + 7) (suc (entry_in f at).slot) n in
    let p = both (good_in g f at) (leb next (entry_in f at).slot && rest) e in
    let q = both (leb next (entry_in f at).slot) rest p.1 in
    let r = from_each g f P h n (at + 7) (suc (entry_in f at).slot) q.1 in
    ((leb-true next (entry_in f at).slot q.0, r.0), (h at (good_parts g f at p.0), r.1))

pub ordered : (g : Shape) (f : List ℕ) (n : ℕ) → good_from g f 25 0 n ≡ true → Ordered g (entries_at f 25 n)
ordered g f n e = let p = from_each g f (λ e. e.slot < sections g * 4096) (λ at h. h.below) n 25 0 e in record { ascending = p.0; below = p.1 }
