-- The starts of the claim's lists.
use mathlib.Core.Path.{◌≡◌, refl, sym, ap, ◌∙◌, subst}
use mathlib.Core.Bool.{true, false≢true}
use mathlib.Core.List.{List}
use Prim.Native.Nat.{ℕ}
use borrow.Author.Tests.{le-ltb}
use lib.IntN.{pos}
use Rattle.stand.specs.Opening as O
use Rattle.stand.specs.Opening.{open_refusal, opened_shape}
use Rattle.stand.specs.Refusal as R
use Rattle.stand.specs.Shape as H
use Rattle.stand.specs.Shape.{Shape, counted, sections}
use Rattle.stand.specs.Storage as T
use Rattle.stand.specs.Storage.{Storage, fresh_storage, lengths_of, storage}
use Rattle.stand.specs.declared.volume.Extent.{Extent}
use Rattle.stand.proofs.Opening.{fresh-fits, size-high}
use Rattle.stand.proofs.Shape.{goods}
use Rattle.form.specs.Calls.{load_call, loaded}
use Rattle.sheet.specs.declared.Marks.{Marks}
use Rattle.ledger.specs.Book.{Origin, Source, open_book, source_book}
use Rattle.ledger.specs.Breadth.{Reaches, Starts}
use Rattle.ledger.specs.Calls as C
use Rattle.ledger.specs.Calls.{Call, Effect, Four, Op, accepted, book, effect_of, feed, given, is_given, own, result, run, source_call, step}
use Rattle.ledger.specs.Claim.{book_after, four_after}
use Rattle.ledger.proofs.Kept.{AcceptedBy}
use Rattle.ledger.proofs.Tells.{by_opening, source_refusal}

-- ---- on any four

-- an opening is accepted where nothing refuses it, and only then
pub given-number : (st : Storage) (x : Source) → is_given (source_call st x).answer ≡ true → source_refusal x (lengths_of st) ≡ 0
given-number st x =
    by_opening (λ r b. is_given r.answer ≡ true → source_refusal x (lengths_of st) ≡ 0) st (source_book x) x (λ k e. absurd (false≢true e)) (λ z e. z)

number-given : (st : Storage) (x : Source) → source_refusal x (lengths_of st) ≡ 0 → is_given (source_call st x).answer ≡ true
unfolding O.open_call O.opened load_call loaded
number-given st (Source.empty o size) e = ap (λ (n : ℕ). is_given (O.opened n st (opened_shape o.cell size)).answer) e
number-given st (Source.form f) e = ap (λ (n : ℕ). is_given (loaded n st f.bytes).answer) e

module _ (s : Four) (c : Call) (x : Source) (p : effect_of c.op ≡ Effect.opens_stand x) (e : source_refusal x (lengths_of (storage (given s c).state)) ≡ 0) where
  pub stand-accepted : accepted s c ≡ true
  unfolding accepted result C.opened
  stand-accepted = subst (AcceptedBy s c) (sym p) (number-given (storage (given s c).state) x e)

  pub starts : Starts s c
  starts =
      record {
        start = record { four = s; first = c; source = x; opens = p; is-accepted = stand-accepted };
        four_is = refl;
        first-is = refl;
      }

-- ---- a stand just opened

opened-four : (s : Four) (o : Origin) (size : Extent) → open_refusal (opened_shape o.cell size) (lengths_of (storage s.state)) ≡ 0
    → step s (own (Op.open_stand o size)) ≡ record { state = T.fresh_state (opened_shape o.cell size); marks = s.marks; sheet = s.sheet }
unfolding step C.left_by given result C.opened O.open_call O.opened T.fresh_state
opened-four s o size e =
    ap (λ (n : ℕ). C.left_by s (own (Op.open_stand o size)) (C.opened (given s (own (Op.open_stand o size))) (O.opened n (storage s.state) (opened_shape o.cell size)))) e

module _ (g : Shape) (e : H.opens g ≡ true) where
  same_shape : opened_shape g.origin (T.extent_of g.size) ≡ g
  unfolding opened_shape O.sizes_of H.opens
  same_shape =
      let q = goods g.origin g.size (counted g) e in
      λ i.
      record {
        origin = g.origin;
        size = H.point_of
            (sym (size-high (pos g.size.x) refl q.x.some) i)
            (sym (size-high (pos g.size.y) refl q.y.some) i)
            (sym (size-high (pos g.size.z) refl q.z.some) i);
      }

  fresh_passes : open_refusal g (lengths_of (fresh_storage (sections g))) ≡ 0
  unfolding open_refusal R.first O.too_many O.last_inside H.opens H.sections
  fresh_passes =
      let q = goods g.origin g.size (counted g) e in
      rw (le-ltb H.max_chunks (H.product (counted g)) q.few, q.x.last, q.y.last, q.z.last, fresh-fits (H.product (counted g)))

  module _ (k : Marks) (l : List ℕ) (r : H.Ranged g.origin) where
    abbrev fresh_four : Four
    fresh_four = record { state = T.fresh_state g; marks = k; sheet = l }

    abbrev origin : Origin
    origin = record { cell = g.origin; ranged = r }

    passes : open_refusal (opened_shape g.origin (T.extent_of g.size)) (lengths_of (fresh_storage (sections g))) ≡ 0
    passes = ap (λ (h : Shape). open_refusal h (lengths_of (fresh_storage (sections g)))) same_shape ∙ fresh_passes

    pub reaches : Reaches g k l
    unfolding four_after book_after run book feed T.fresh_state starts given
    reaches =
        record {
          start = (starts fresh_four (own (Op.open_stand origin (T.extent_of g.size))) (Source.empty origin (T.extent_of g.size)) refl passes).start;
          four_is = opened-four fresh_four origin (T.extent_of g.size) passes ∙ ap (λ (h : Shape). record { state = T.fresh_state h; marks = k; sheet = l }) same_shape;
          book-is = ap open_book same_shape;
        }
