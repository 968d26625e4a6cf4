-- Sections away from all changes since the mark stay priced by the card.
use mathlib.Core.Path.{◌≡◌, refl, sym, ap, ◌∙◌}
use mathlib.Core.Bool.{Bool, true, false, cond, ◌&&◌}
use mathlib.Core.List.{List}
use Prim.Native.Nat.{ℕ, zero, suc, ◌*◌, ◌/◌, ◌%◌, ◌≤◌, ◌<◌}
use native.Mathlib.Nat.{div-lt_iff_lt-mul, mod-lt, mul-zero}
use native.Mathlib.Omega.{arith}
use Rattle.stand.specs.Cells.{is_empty}
use Rattle.stand.specs.Shape.{Ranged, Shape, chunk_of, counted, inside, opens, sections}
use Rattle.stand.specs.declared.Cell.{Cell}
use Rattle.mesh.specs.Near.{near}
use Rattle.mesh.specs.Part.{cell_in, depth_of, height_of, section_part, slot_shown, width_of}
use Rattle.mesh.specs.Visible.{ahead, clears, shown}
use Rattle.mesh.proofs.Locality.{Agree, near-ahead, near_self}
use Rattle.mesh.proofs.Panels.{InSlice, slice-part}
use Rattle.mesh.proofs.Sections.{part-chunk}
use Rattle.sheet.specs.Card.{Terms, payable}
use Rattle.sheet.specs.Row.{priced, slice_priced}
use Rattle.sheet.proofs.Pricing.{all_same}
use Rattle.sheet.proofs.Steps.{near_sym}
use Rattle.ledger.specs.Book.{Book, Changed, set_all}
use Rattle.ledger.proofs.Books.{all_changed, all-look, all-shape-kept}
use Rattle.ledger.proofs.Shows.{Clean}

-- ---- locality

module _ (beyond : Bool) (g : Shape) (f h : Cell → ℕ) where
  shown-same : (s : ℕ) (c : Cell) → (inside g c ≡ true → f c ≡ h c)
      → (inside g c ≡ true → inside g (ahead s c) ≡ true → f (ahead s c) ≡ h (ahead s c)) → shown beyond g f s c ≡ shown beyond g h s c
  unfolding shown clears
  shown-same s c p q = go (inside g c) refl
    where
      on : (a : Bool) → inside g (ahead s c) ≡ a → inside g c ≡ true → cond a (is_empty (f (ahead s c))) beyond ≡ cond a (is_empty (h (ahead s c))) beyond
      on true y x = ap is_empty (q x y)
      on false y x = refl

      go : (b : Bool) → inside g c ≡ b
          → cond (b && cond (inside g (ahead s c)) (is_empty (f (ahead s c))) beyond) (f c) 0 ≡ cond (b && cond (inside g (ahead s c)) (is_empty (h (ahead s c))) beyond) (h c) 0
      go true x = λ i. cond (on (inside g (ahead s c)) refl x i) (p x i) 0
      go false x = refl

  module _ (i : ℕ) (same : (s : ℕ) (c : Cell) → s < 6 → InSlice g (section_part g i) s c → shown beyond g f s c ≡ shown beyond g h s c) where
    some : (a b q : ℕ) → q < a * b → 0 < b
    some a zero q l = absurd (omega (arith, mul-zero a))
    some a (suc b) q l = omega arith

    slot_same : (s k q : ℕ) → s < 6 → k < depth_of (section_part g i) s → q < height_of (section_part g i) s * width_of (section_part g i) s
        → slot_shown beyond g f (section_part g i) s k q ≡ slot_shown beyond g h (section_part g i) s k q
    unfolding slot_shown
    slot_same s k q ls lk lq =
        let r = section_part g i in
        let w = some (height_of r s) (width_of r s) q lq in
        same s (cell_in g r s k (q % width_of r s) (q / width_of r s)) ls
        (record { k = k; u = q % width_of r s; v = q / width_of r s; deep = lk; wide = mod-lt q w; high = (div-lt_iff_lt-mul w).1 lq; cell = refl })

    priced-same : (rates : List ℕ) → priced rates beyond g f i ≡ priced rates beyond g h i
    unfolding priced slice_priced
    priced-same rates =
        all_same _ _ 6 (λ s ls. all_same _ _ (depth_of (section_part g i) s) (λ k lk.
        all_same _ _ (height_of (section_part g i) s * width_of (section_part g i) s) (λ q lq. ap (payable rates) (slot_same s k q ls lk lq))))

  pub priced_looks : (rates : List ℕ) (i : ℕ) → ((c : Cell) → inside g c ≡ true → f c ≡ h c) → priced rates beyond g f i ≡ priced rates beyond g h i
  priced_looks rates i e = priced-same i (λ s c ls p. shown-same s c (e c) (λ x y. e (ahead s c) y)) rates

  pub priced_local : (rates : List ℕ) → opens g ≡ true → Ranged g.origin → (i : ℕ) → Agree g i f h → priced rates beyond g f i ≡ priced rates beyond g h i
  priced_local rates o r i e =
      priced-same i
      (λ s c ls p.
      let n = part-chunk g i c (slice-part g (section_part g i) s ls c p) in
      shown-same s c
      (λ x. e c x (ap (near (counted g) i) n ∙ near_self (counted g) i))
      (λ x y. e (ahead s c) y (ap (λ (j : ℕ). near (counted g) j (chunk_of g (ahead s c))) (sym n) ∙ near-ahead g o r s ls c x y)))
      rates

-- ---- since the mark

abbrev pub Payable : Terms → ℕ → Book → Type 0
Payable t mark b = (i : ℕ) → i < sections b.shape → Clean b mark i → priced t.rates t.beyond b.shape b.look i ≡ true

module _ (t : Terms) (mark : ℕ) (b : Book) (cs : List Cell) (v : ℕ) (o : opens b.shape ≡ true) (r : Ranged b.shape.origin) (m : mark ≤ b.count) where
  abbrev new : Book
  new = set_all b cs v

  same_shape : new.shape ≡ b.shape
  same_shape = all-shape-kept cs b v

  pub payable-all : Payable t mark b → Payable t mark new
  payable-all s i h clean =
      let near-clean : (d : ℕ) → near (counted b.shape) d i ≡ true → Changed new mark d → ⊥ =
      λ d n. clean d (ap (λ (g : Shape). near (counted g) d i) same_shape ∙ n) in
      let look-same : Agree b.shape i b.look new.look =
      λ c _ n. sym (all-look cs b v mark m c (near-clean (chunk_of b.shape c) (near_sym (counted b.shape) (chunk_of b.shape c) i ∙ n))) in
      ap (λ (g : Shape). priced t.rates t.beyond g new.look i) same_shape
      ∙ sym (priced_local t.beyond b.shape b.look new.look t.rates o r i look-same)
      ∙ s i (rw (sym same_shape) h) (λ d n x. near-clean d n (all_changed cs b v mark d x))
