-- A load that nothing refuses.
use mathlib.Core.Path.{◌≡◌, refl, ap, sym, ◌∙◌}
use mathlib.Core.Bool.{cond, Bool, true, false, ◌&&◌, false≢true, not}
use mathlib.Core.List.{List, [], ◌∷◌, ◌++◌}
use Prim.Native.Nat.{ℕ, zero, suc, ◌+◌, ◌-◌, ◌*◌, ◌≤◌}
use native.Mathlib.Omega.{arith}
use borrow.Author.Tests.{eq-eqb, le-leb, le-ltb, ltb-false, not-false}
use lib.Dec.{ltb}
use lib.ListN.{length}
use Rattle.stand.specs.Opening.{last_inside, open_rules, too_many}
use Rattle.stand.specs.Refusal.{◌⇒◌, first}
use Rattle.stand.specs.Shape.{Ranged, axis_good, counted, chunks_in, chunks_on, good, last_fits, max_chunks, opens, sections, product}
use Rattle.stand.specs.Storage.{Lengths, storage_fits}
use Rattle.stand.proofs.Refusal.{passes}
use Rattle.stand.proofs.Tests.{both}
use Rattle.arith.specs.Bytes.{Bytes, double_at, signed_at, word_at}
use Rattle.form.specs.Calls.{is_form, load_refusal}
use Rattle.form.specs.Entries.{digest_with}
use Rattle.form.specs.Form.{count_in, entries_in, has_head, head_shape, valid, entries_at}
use Rattle.arith.proofs.bytes.Laws.{signed_fits, word_lt}
use Rattle.form.proofs.Entries.{Own}
use Rattle.form.specs.Inner.{Asc, Each}
use Rattle.form.specs.Keeping.{last_digest}
use Rattle.form.proofs.Reading.{Small}
use Rattle.form.proofs.Back.{Whole, good-from, whole-form}

pub record Loads (f : List ℕ) (l : Lengths) : Type 0 where
  pub head : has_head f ≡ true
  pub few : sections (head_shape f) ≤ max_chunks
  pub last : last_inside (head_shape f).origin (head_shape f).size ≡ true
  pub fits : storage_fits (sections (head_shape f)) l ≡ true
  pub ok : valid (head_shape f) f ≡ true

pub loads : (f : List ℕ) (l : Lengths) → load_refusal f l ≡ 0 → Loads f l
unfolding load_refusal is_form too_many
loads f l = by (has_head f) refl
  where
    by : (t : Bool) → has_head f ≡ t → first (cond t (open_rules (head_shape f) l) [] ++ (not (t && valid (head_shape f) f) ⇒ 14) ∷ []) ≡ 0 → Loads f l
    by false q z = absurd (false≢true (sym (passes true 13 [] z).0))
    by true q z =
        let p = passes (ltb max_chunks (sections (head_shape f))) 0 _ z in
        let r = passes (not (last_inside (head_shape f).origin (head_shape f).size)) 1 _ p.1 in
        let t = passes (not (storage_fits (sections (head_shape f)) l)) 3 _ r.1 in
        let u = passes (not (valid (head_shape f) f)) 13 _ t.1 in
        record {
          head = q;
          few = ltb-false max_chunks (sections (head_shape f)) p.0;
          last = not-false (last_inside (head_shape f).origin (head_shape f).size) r.0;
          fits = not-false (storage_fits (sections (head_shape f)) l) t.0;
          ok = not-false (valid (head_shape f) f) u.0;
        }

-- and back
pub loads_pass : (f : List ℕ) (l : Lengths) → Loads f l → load_refusal f l ≡ 0
unfolding load_refusal is_form first too_many
loads_pass f l h = rw (h.head, le-ltb max_chunks (sections (head_shape f)) h.few, h.last, h.fits, h.ok)

pub loads_whole : (f : List ℕ) (l : Lengths) → Loads f l → Whole (head_shape f) f
loads_whole f l h = whole-form (head_shape f) f h.head h.ok

-- the digest that it ends with
pub loads_digest : (f : List ℕ) (l : Lengths) → Loads f l → last_digest f ≡ digest_with (head_shape f) (entries_in f)
unfolding count_in
loads_digest f l h =
    let w = loads_whole f l h in
    let n : length f - 8 ≡ 26 + count_in f * 7 = omega (arith, w.rest.long, w.rest.even) in
    ap (double_at f) n ∙ w.rest.digest

module _ (f : List ℕ) (l : Lengths) (b : Bytes f) (h : Loads f l) where
  pub loads_opens : opens (head_shape f) ≡ true
  unfolding opens good axis_good last_inside sections counted chunks_in
  loads_opens =
      let w = loads_whole f l h in
      let g = head_shape f in
      let a = both (last_fits g.origin.x g.size.x) (last_fits g.origin.y g.size.y && last_fits g.origin.z g.size.z) h.last in
      let c = both (last_fits g.origin.y g.size.y) (last_fits g.origin.z g.size.z) a.1 in
      rw (
        le-leb 1 g.size.x w.head.x,
        le-leb 1 g.size.y w.head.y,
        le-leb 1 g.size.z w.head.z,
        a.0,
        c.0,
        c.1,
        eq-eqb (chunks_on g.size.x) (chunks_on g.size.x) refl,
        eq-eqb (chunks_on g.size.y) (chunks_on g.size.y) refl,
        eq-eqb (chunks_on g.size.z) (chunks_on g.size.z) refl,
        le-leb (product (chunks_in g.size)) max_chunks h.few,
      )

  pub loads_ranged : Ranged (head_shape f).origin
  unfolding head_shape signed_at
  loads_ranged = record { x = signed_fits (word_at f 1) (word_lt f b 1); y = signed_fits (word_at f 5) (word_lt f b 5); z = signed_fits (word_at f 9) (word_lt f b 9) }

  pub loads_own : Asc 0 (entries_in f) × Each (Own (head_shape f)) (entries_in f) × Each Small (entries_in f)
  unfolding entries_in
  loads_own = good-from (head_shape f) f b h.few (count_in f) 25 0 (loads_whole f l h).rest.good

pub at_length : (f : List ℕ) (n at : ℕ) → length (entries_at f at n) ≡ n
unfolding entries_at
at_length f zero at = refl
at_length f (suc n) at = ap suc (at_length f n (at + 7))

pub count_entries : (f : List ℕ) → length (entries_in f) ≡ count_in f
unfolding entries_in
count_entries f = at_length f (count_in f) 25
