-- A set and a fill in the book: shape and count, sections changed since a mark, and finishes that stay.
use mathlib.Core.Path.{◌≡◌, refl, sym, ◌∙◌, subst}
use mathlib.Core.Bool.{Bool, true, false, cond}
use mathlib.Core.List.{List, [], ◌∷◌}
use Prim.Native.Nat.{ℕ, ◌+◌, ◌≤◌}
use native.Mathlib.Omega.{arith}
use borrow.Author.Tests.{eq-eqb, eqb-false, eqb-true, ne_eqb}
use lib.Dec.{eqb}
use Rattle.stand.specs.Shape.{Shape, chunk_of}
use Rattle.stand.specs.declared.Cell.{Cell}
use Rattle.stand.proofs.Tests.{by-test}
use Rattle.ledger.specs.Book.{Book, Changed, note_book, same_cell, set_all, set_book}
use Rattle.ledger.proofs.Same.{same-cells}

-- what holds of the two cases holds of a set
pub by_book : (P : Book → Type 0) (b : Book) (c : Cell) (v : ℕ)
    → (b.look c ≡ v → P b)
    → ((b.look c ≡ v → ⊥) → P (note_book b c v))
    → P (set_book b c v)
unfolding set_book
by_book P b c v same other = go (eqb (b.look c) v) refl
  where
    go : (t : Bool) → eqb (b.look c) v ≡ t → P (cond t b (note_book b c v))
    go true e = same (eqb-true _ _ e)
    go false e = other (eqb-false _ _ e)

module _ (b : Book) (c : Cell) (v : ℕ) where
  pub book-same : b.look c ≡ v → set_book b c v ≡ b
  unfolding set_book
  book-same e = rw (eq-eqb (b.look c) v e)

  pub book-other : (b.look c ≡ v → ⊥) → set_book b c v ≡ note_book b c v
  unfolding set_book
  book-other h = rw (ne_eqb (b.look c) v h)

  pub set-shape-kept : (set_book b c v).shape ≡ b.shape
  unfolding note_book
  set-shape-kept = by_book (λ (x : Book). x.shape ≡ b.shape) b c v (λ e. refl) (λ h. refl)

  pub set-count_more : b.count ≤ (set_book b c v).count
  unfolding note_book
  set-count_more = by_book (λ (x : Book). b.count ≤ x.count) b c v (λ e. omega arith) (λ h. omega arith)

  module _ (mark : ℕ) where
    note_keeps : (d : ℕ) → Changed b mark d → Changed (note_book b c v) mark d
    unfolding note_book
    note_keeps d w =
        record {
          number = w.number;
          above = w.above;
          within = omega (arith, w.within);
          is = rw (ne_eqb w.number (b.count + 1) (λ e. omega (arith, w.within))) w.is;
        }

    pub still_changed : (d : ℕ) → Changed b mark d → Changed (set_book b c v) mark d
    still_changed d w = by_book (λ (x : Book). Changed x mark d) b c v (λ e. w) (λ h. note_keeps d w)

    pub note_changed : mark ≤ b.count → Changed (note_book b c v) mark (chunk_of b.shape c)
    unfolding note_book
    note_changed h =
        record {
          number = b.count + 1;
          above = omega arith;
          within = omega arith;
          is = rw (eq-eqb (b.count + 1) (b.count + 1) refl);
        }

    note_look : mark ≤ b.count → (d : Cell) → (Changed (note_book b c v) mark (chunk_of b.shape d) → ⊥) → (note_book b c v).look d ≡ b.look d
    unfolding note_book
    note_look h d w =
        by-test (same_cell d c)
        (λ q. absurd (w (subst (λ (x : Cell). Changed (note_book b c v) mark (chunk_of b.shape x)) (sym (same-cells d c q)) (note_changed h))))
        (λ q. rw q)

    -- a cell whose section has not changed keeps its finish
    pub set-look : mark ≤ b.count → (d : Cell) → (Changed (set_book b c v) mark (chunk_of b.shape d) → ⊥) → (set_book b c v).look d ≡ b.look d
    set-look h d =
        by_book (λ (x : Book). (Changed x mark (chunk_of b.shape d) → ⊥) → x.look d ≡ b.look d) b c v (λ e w. refl) (λ n. note_look h d)

-- ---- a fill

pub all-shape-kept : (cs : List Cell) (b : Book) (v : ℕ) → (set_all b cs v).shape ≡ b.shape
unfolding set_all
all-shape-kept [] b v = refl
all-shape-kept (c ∷ cs) b v = all-shape-kept cs (set_book b c v) v ∙ set-shape-kept b c v

pub all-count_more : (cs : List Cell) (b : Book) (v : ℕ) → b.count ≤ (set_all b cs v).count
unfolding set_all
all-count_more [] b v = omega arith
all-count_more (c ∷ cs) b v = omega (arith, set-count_more b c v, all-count_more cs (set_book b c v) v)

pub all_changed : (cs : List Cell) (b : Book) (v mark d : ℕ) → Changed b mark d → Changed (set_all b cs v) mark d
unfolding set_all
all_changed [] b v mark d w = w
all_changed (c ∷ cs) b v mark d w = all_changed cs (set_book b c v) v mark d (still_changed b c v mark d w)

pub all-look : (cs : List Cell) (b : Book) (v mark : ℕ) → mark ≤ b.count → (d : Cell) → (Changed (set_all b cs v) mark (chunk_of b.shape d) → ⊥) → (set_all b cs v).look d ≡ b.look d
unfolding set_all
all-look [] b v mark h d w = refl
all-look (c ∷ cs) b v mark h d w =
    all-look cs (set_book b c v) v mark (omega (arith, set-count_more b c v)) d
    (λ x. w (subst (λ (g : Shape). Changed (set_all (set_book b c v) cs v) mark (chunk_of g d)) (set-shape-kept b c v) x))
    ∙ set-look b c v mark h d (λ x. w (all_changed cs (set_book b c v) v mark (chunk_of b.shape d) x))
