-- Equal bytes are of equal stands, and the other way round.
use mathlib.Core.Path.{◌≡◌, sym, ap, ◌∙◌, subst}
use mathlib.Core.Bool.{true}
use mathlib.Core.List.{List}
use Prim.Native.Nat.{ℕ}
use lib.ListN.{get_or}
use Rattle.stand.specs.Edit.{look}
use Rattle.stand.specs.Shape.{Shape, cell_from, counted, inside, opens, shape_of, slot, spot_at}
use Rattle.stand.specs.Storage.{volume_of}
use Rattle.stand.specs.declared.Cell.{Cell}
use Rattle.stand.specs.declared.volume.Volume.{Volume}
use Rattle.stand.proofs.Opened.{same-volume}
use Rattle.stand.proofs.Shape.{shape_same, slot_lt}
use Rattle.stand.proofs.Slots.{cell-from-slot, slot_of_cell}
use Rattle.stand.proofs.Tests.{by-test}
use Rattle.form.specs.Calls.{stored_form}
use Rattle.form.specs.Entries.{entries_of, inside_at, kept_at}
use Rattle.form.specs.Form.{form_of}
use Rattle.form.specs.Keeping.{Same, Storable}
use Rattle.form.proofs.Entries.{entries_only, entries_then}
use Rattle.form.proofs.Reading.{form_inj}
use Rattle.form.proofs.Stored.{storable_opens, storable_ranged, storable_sizes, storable_small}

-- ---- slots and cells

-- the slot of a cell inside holds the cell
pub kept-look : (g : Shape) (cells : List ℕ) (c : Cell) → opens g ≡ true → inside g c ≡ true → kept_at g cells (slot g c) ≡ look g cells c
unfolding kept_at inside_at look
kept-look g cells c o h = rw (ap (inside g) (cell-from-slot g c o h) ∙ h)

-- where cells inside are equal, slots hold the same
kept_same : (g : Shape) (xs ys : List ℕ) → ((c : Cell) → inside g c ≡ true → look g xs c ≡ look g ys c) → (j : ℕ) → kept_at g xs j ≡ kept_at g ys j
unfolding kept_at inside_at look
kept_same g xs ys e j =
    let c = cell_from g (spot_at (counted g) j) in
    let n = slot_of_cell g j in
    by-test (inside g c)
    (λ q. rw q (ap (λ (m : ℕ). get_or xs m 0) (sym n) ∙ e c q ∙ ap (λ (m : ℕ). get_or ys m 0) n))
    (λ q. rw q)

-- ---- forms

module _ (g h : Shape) (p : g ≡ h) (xs ys : List ℕ) where
  forms_same : ((c : Cell) → inside g c ≡ true → look g xs c ≡ look h ys c) → form_of g (entries_of g xs) ≡ form_of h (entries_of h ys)
  forms_same =
      subst (λ (k : Shape). ((c : Cell) → inside g c ≡ true → look g xs c ≡ look k ys c) → form_of g (entries_of g xs) ≡ form_of k (entries_of k ys)) p
      (λ e. ap (form_of g) (entries_then g xs ys (λ j _. kept_same g xs ys e j)))

  cells_same : opens g ≡ true → entries_of g xs ≡ entries_of h ys → (c : Cell) → inside g c ≡ true → look g xs c ≡ look h ys c
  cells_same o =
      subst (λ (k : Shape). entries_of g xs ≡ entries_of k ys → (c : Cell) → inside g c ≡ true → look g xs c ≡ look k ys c) p
      (λ e c i. sym (kept-look g xs c o i) ∙ entries_only g xs ys e (slot g c) (slot_lt g c o i) ∙ kept-look g ys c o i)

-- ---- stands

module _ (v w : Volume) (xs ys : List ℕ) where
  pub same-form : Same v xs w ys → stored_form v xs ≡ stored_form w ys
  unfolding stored_form
  same-form e = forms_same (shape_of v) (shape_of w) (shape_same v w e.origin e.size) xs ys e.cells

  pub same_stands : Storable v xs → Storable w ys → stored_form v xs ≡ stored_form w ys → Same v xs w ys
  unfolding stored_form
  same_stands a b e =
      let p = form_inj (shape_of v) (shape_of w) (entries_of (shape_of v) xs) (entries_of (shape_of w) ys) (storable_ranged v xs a) (storable_ranged w ys b)
      (storable_sizes v xs a) (storable_sizes w ys b) (storable_small v xs a) (storable_small w ys b) e in
      let q = sym (same-volume v a.formed) ∙ ap (λ (g : Shape). volume_of g 0 0) p.0 ∙ same-volume w b.formed in
      record {
        origin = ap (λ (u : Volume). u.origin) q;
        size = ap (λ (u : Volume). u.size) q;
        cells = cells_same (shape_of v) (shape_of w) p.0 xs ys (storable_opens v xs a) p.1;
      }
