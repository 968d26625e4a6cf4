-- An opening of the program, beside the page.
use mathlib.Core.Path.{◌≡◌, refl, sym, ap, ◌∙◌, subst}
use mathlib.Core.Bool.{Bool, true, false, not, true≢false}
use mathlib.Core.List.{List, [], ◌∷◌, ◌++◌}
use mathlib.Core.Option.{Option, some}
use Prim.Native.Nat.{ℕ, zero, suc, ◌≤◌, ◌<◌}
use native.Mathlib.Omega.{arith}
use borrow.Author.Tests.{ltb-false, ltb-true}
use lib.Dec.{ltb}
use Rattle.stand.specs.Opening as O
use Rattle.stand.specs.Opening.{open_refusal, opened_shape, shape_rules}
use Rattle.stand.specs.Refusal.{◌⇒◌, first}
use Rattle.stand.specs.Shape.{Ranged, Shape, sections}
use Rattle.stand.specs.Storage.{Storage, fresh_state, fresh_storage, lengths_of, storage_fits}
use Rattle.stand.specs.declared.Cell.{Cell}
use Rattle.stand.specs.declared.volume.Extent.{Extent}
use Rattle.stand.proofs.Opening.{opened-opens}
use Rattle.stand.proofs.Refusal.{first_part, passes}
use Rattle.stand.proofs.Storage.{fits_all, fits-apart}
use Rattle.stand.proofs.Tests.{by-test, refuted}
use Rattle.sheet.specs.Card.{Terms}
use Rattle.ledger.specs.Book.{Book, open_book}
use Rattle.ledger.proofs.Tells.{rules_pass, tells_fresh}
use Rattle.interpreter.specs.Room.{lent_of, wanted_of}
use Rattle.interpreter.specs.Run.{Edited, back, edited_of, front, lengths_in, open_step, open_with, opened_turn, turn_of}
use Rattle.interpreter.specs.declared.Machine.{Machine}
use Rattle.interpreter.specs.declared.Reply.TheVariants as R
use Rattle.scripts.specs.Page.{open_number, opened}
use Rattle.scripts.proofs.Edits.{Kept}
use Rattle.scripts.proofs.Fronts.{Full, back-front, front_fits, full_back}
use Rattle.scripts.proofs.Lending.{lent-few, lent_many, wanted_all}
use Rattle.scripts.proofs.Standing.{Standing, given_back}

-- two tables that begin alike and differ in a last rule of the same number
alike : (g : Shape) (a b : Bool) → (first (shape_rules g) ≡ 0 → a ≡ b) → first (shape_rules g ++ (a ⇒ 4) ∷ []) ≡ first (shape_rules g ++ (b ⇒ 4) ∷ [])
alike g a b h = go (first (shape_rules g)) refl
  where
    go : (n : ℕ) → first (shape_rules g) ≡ n → first (shape_rules g ++ (a ⇒ 4) ∷ []) ≡ first (shape_rules g ++ (b ⇒ 4) ∷ [])
    go zero e = ap (λ (x : Bool). first (shape_rules g ++ (x ⇒ 4) ∷ [])) (h e)
    go (suc n) e = first_part (shape_rules g) ((a ⇒ 4) ∷ []) (λ z. omega arith) ∙ sym (first_part (shape_rules g) ((b ⇒ 4) ∷ []) (λ z. omega arith))

-- nothing refuses it: 1 and 2 let it pass, and it has at most 4 sections
pub number_passed : (o : Cell) (size : Extent) → open_number (opened_shape o size) ≡ 0 → (first (shape_rules (opened_shape o size)) ≡ 0) × (sections (opened_shape o size) ≤ 4)
unfolding open_number
number_passed o size e =
    let p = passes _ _ _ e in
    let q = passes _ _ _ p.1 in
    let r = passes _ _ _ q.1 in
    (rules_pass _ _ p.0 q.0, ltb-false 4 _ r.0)

module _ (s : Storage) (u : Full s) (o : Cell) (size : Extent) where
  abbrev g : Shape
  g = opened_shape o size

  abbrev n : ℕ
  n = lent_of (wanted_of o size) (lengths_in s 12)

  lent-all : first (shape_rules g) ≡ 0 → sections g ≤ 4 → n ≡ sections g
  lent-all e h = ap (λ k. lent_of k (lengths_in s 12)) (wanted_all o size e) ∙ lent-few (sections g) s h u

  lent_none : first (shape_rules g) ≡ 0 → 4 < sections g → n ≡ 0
  lent_none e h = ap (λ k. lent_of k (lengths_in s 12)) (wanted_all o size e) ∙ lent_many (sections g) (lengths_in s 12) h

  -- what is lent fits where it has at most 4 sections
  fits-few : first (shape_rules g) ≡ 0 → sections g ≤ 4 → storage_fits (sections g) (lengths_of (front n s)) ≡ true
  fits-few e h =
      subst (λ k. storage_fits (sections g) (lengths_of (front k s)) ≡ true) (sym (lent-all e h)) (fits_all _ _ (front_fits (sections g) s h u))

  fits_not : first (shape_rules g) ≡ 0 → 4 < sections g → storage_fits (sections g) (lengths_of (front n s)) ≡ false
  fits_not e h =
      subst (λ k. storage_fits (sections g) (lengths_of (front k s)) ≡ false) (sym (lent_none e h))
      (sym (refuted _ (λ f. let q = fits-apart _ _ f in omega (arith, q.hashes))))

  fits-is : first (shape_rules g) ≡ 0 → not (storage_fits (sections g) (lengths_of (front n s))) ≡ ltb 4 (sections g)
  fits-is e =
      by-test (ltb 4 (sections g))
      (λ h. ap not (fits_not e (ltb-true _ _ h)) ∙ sym h)
      (λ h. ap not (fits-few e (ltb-false _ _ h)) ∙ sym h)

  pub number_is : open_refusal g (lengths_of (front n s)) ≡ open_number g
  unfolding open_refusal open_number
  number_is = alike g _ _ fits-is

-- ---- after an opening

module _ (m : Machine) (s : Storage) (t : Terms) (sheet : List ℕ) (u : Full s) (o : Cell) (size : Extent) where
  -- under its refusal's number, n sections lent
  abbrev under : ℕ → ℕ → Edited
  under j k =
      edited_of (opened_turn m (O.opened j (front k s) (opened_shape o size)).answer) (back k (O.opened j (front k s) (opened_shape o size)).storage s)

  refused-kept : (j k : ℕ) (b : Option Book) → Standing m s t sheet b → Kept (under (suc j) k) m t sheet b
  unfolding O.opened
  refused-kept j k b w =
      subst (λ (x : Storage). Kept (edited_of (turn_of m (R.Refused (suc j))) x) m t sheet b) (sym (back-front k s))
      (record { full = u; cut-is = refl; standing = w })

  fresh_kept : Ranged o → open_number (opened_shape o size) ≡ 0 → Kept (under 0 (sections (opened_shape o size))) m t sheet (some (open_book (opened_shape o size)))
  unfolding O.opened Standing fresh_state open_book opened_shape
  fresh_kept r e =
      let p = number_passed o size e in
      let g = opened_shape o size in
      let k = tells_fresh g (opened-opens o size p.0) r in
      let q = given_back (sections g) (fresh_state g) s (open_book g) refl k in
      record {
        full = full_back (sections g) (fresh_storage (sections g)) s q.0 p.1 u;
        cut-is = refl;
        standing = record { n = sections g; n_is = refl; few = p.1; tells = q.1; shows = λ f. absurd (true≢false f); payable = λ f. absurd (true≢false f) };
      }

  pub open_kept : (k : ℕ) → k ≡ 12 → Ranged o → (b : Option Book) → Standing m s t sheet b
      → Kept (open_step m s k o size) m t sheet (opened (open_number (opened_shape o size)) b (opened_shape o size))
  unfolding open_step open_with O.open_call opened
  open_kept k q r b w =
      subst (λ k. Kept (open_step m s k o size) m t sheet (opened (open_number (opened_shape o size)) b (opened_shape o size))) (sym q)
      (subst (λ j. Kept (under j (n s u o size)) m t sheet (opened (open_number (opened_shape o size)) b (opened_shape o size))) (sym (number_is s u o size))
      (go (open_number (opened_shape o size)) refl))
    where
      go : (j : ℕ) → open_number (opened_shape o size) ≡ j → Kept (under j (n s u o size)) m t sheet (opened j b (opened_shape o size))
      go zero e =
          let p = number_passed o size e in
          subst (λ k. Kept (under 0 k) m t sheet (some (open_book (opened_shape o size)))) (sym (lent-all s u o size p.0 p.1)) (fresh_kept r e)
      go (suc j) e = refused-kept j (n s u o size) b w
