-- The entries of a stand, stored and loaded.
use mathlib.Core.Path.{◌≡◌, ◌∙◌}
use mathlib.Core.Bool.{true}
use mathlib.Core.List.{List}
use Prim.Native.Nat.{ℕ, zero, suc, ◌+◌, ◌*◌, ◌<◌, ◌≤◌}
use native.Mathlib.Omega.{arith}
use lib.Dec.{eqb}
use lib.ListN.{get_or, length, length-replicate, replicate}
use borrow.Author.Tests.{eqb-false}
use Rattle.stand.specs.Shape.{Shape, opens, sections}
use Rattle.stand.proofs.Kept.{Finishes, zeros}
use Rattle.stand.proofs.Shape.{sections-few}
use Rattle.stand.proofs.Tests.{by-test}
use Rattle.form.specs.Entries.{Entry, entries_from, entries_of, entry_of, kept_at, inside_at, placed}
use Rattle.form.specs.Form.{entries_in, form_of, valid}
use Rattle.form.proofs.Entries.{Own, each_so, entries_asc, lookup_entries, placed-look}
use Rattle.form.specs.Inner.{Asc, Each}
use Rattle.form.proofs.Reading.{Small, entries_form}
use Rattle.form.proofs.Validity.{form-valid}

entries_each : (P : Entry → Type 0) (look : ℕ → ℕ) (m k : ℕ) → ((j : ℕ) → k ≤ j → j < k + m → (look j ≡ 0 → ⊥) → P (entry_of j (look j))) → Each P (entries_from look k m)
unfolding entries_from
entries_each P look zero k h = tt
entries_each P look (suc m) k h =
    by-test (eqb (look k) 0)
    (λ q. rw q (entries_each P look m (suc k) (λ j a c. h j (omega arith) (omega arith))))
    (λ q. rw q (h k (omega arith) (omega arith) (eqb-false (look k) 0 q), entries_each P look m (suc k) (λ j a c. h j (omega arith) (omega arith))))

module _ (g : Shape) (cells : List ℕ) (o : opens g ≡ true) (small : Finishes cells) where
  kept-inside : (j : ℕ) → (kept_at g cells j ≡ 0 → ⊥) → inside_at g j ≡ true
  unfolding kept_at
  kept-inside j n = by-test (inside_at g j) (λ q. q) (λ q. absurd (n (rw q)))

  kept_small : (j : ℕ) → kept_at g cells j < 65536
  unfolding kept_at
  kept_small j = by-test (inside_at g j) (λ q. rw q (small j)) (λ q. rw q (omega arith))

  pub own_of : Each (Own g) (entries_of g cells)
  unfolding entries_of
  own_of =
      entries_each (Own g) (kept_at g cells) (sections g * 4096) 0
      (λ j a c n. record { below = omega arith; inside_it = kept-inside j n; filled = n })

  pub small_of : Each Small (entries_of g cells)
  unfolding entries_of
  small_of =
      entries_each Small (kept_at g cells) (sections g * 4096) 0
      (λ j a c n. record { slot = omega (arith, sections-few g o); finish = kept_small j })

  pub asc_of : Asc 0 (entries_of g cells)
  unfolding entries_of
  asc_of = entries_asc (kept_at g cells) (sections g * 4096) 0

  pub stored-valid : valid g (form_of g (entries_of g cells)) ≡ true
  stored-valid = form-valid g (entries_of g cells) small_of own_of asc_of

  pub stored_entries : entries_in (form_of g (entries_of g cells)) ≡ entries_of g cells
  stored_entries = entries_form g (entries_of g cells) small_of

  -- what is loaded again holds the cells inside, and nothing beyond
  pub store-load : (j : ℕ) → j < sections g * 4096 → get_or (placed (entries_of g cells) (replicate (sections g * 4096) 0)) j 0 ≡ kept_at g cells j
  unfolding entries_of
  store-load j h =
      let n = sections g * 4096 in
      placed-look (entries_of g cells) (replicate n 0) 0 asc_of
      (each_so (Own g) (λ e. e.slot < length (replicate {A = ℕ} n 0)) (λ e w. omega (arith, w.below, length-replicate {A = ℕ} n 0)) (entries_of g cells) own_of)
      (λ i _. zeros n i) j (omega arith)
      ∙ lookup_entries (kept_at g cells) n 0 j (omega arith) (omega arith)
