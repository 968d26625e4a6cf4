-- Solid and hashes under a change: the counts and terms that they stand for move alike.
use Rattle.std.proofs.Common.{◌≡◌, ℕ, zero, suc, ◌+◌, ◌-◌, ◌*◌, ◌/◌, ◌%◌, ◌^◌, ◌<◌, ◌≤◌, Bool, true, false, cond, eqb, List, length, get_or, set, refl, ap, ◌∙◌, subst, arith, get_or-set_other, get_or-set_same, eqb-true}
use native.Mathlib.Nat.{mod-add-mod, add-mod_right}
use borrow.Author.Tests.{eqb-false}
use lib.Bits.{bit_xor}
use Rattle.arith.proofs.Xor.{xor_swap, xor_undo}
use Rattle.stand.specs.Cells.{is_empty}
use Rattle.stand.specs.Edit.{hash_after, solid_after, toggled}
use Rattle.stand.specs.Hash.{term_of}
use Rattle.stand.specs.Sound.{occupied, terms_of}

-- ---- terms taken in and out

toggle_undo : (w v h : ℕ) → toggled w v (toggled w v h) ≡ h
unfolding toggled
toggle_undo w v h = by (eqb v 0)
  where
    by : (t : Bool) → cond t (cond t h (bit_xor h (term_of w v))) (bit_xor (cond t h (bit_xor h (term_of w v))) (term_of w v)) ≡ h
    by true = refl
    by false = xor_undo h (term_of w v)

toggle_swap : (w v x y h : ℕ) → toggled w v (toggled x y h) ≡ toggled x y (toggled w v h)
unfolding toggled
toggle_swap w v x y h = by (eqb v 0) (eqb y 0)
  where
    by : (s t : Bool) → cond s (cond t h (bit_xor h (term_of x y))) (bit_xor (cond t h (bit_xor h (term_of x y))) (term_of w v)) ≡ cond t (cond s h (bit_xor h (term_of w v))) (bit_xor (cond s h (bit_xor h (term_of w v))) (term_of x y))
    by true true = refl
    by true false = refl
    by false true = refl
    by false false = xor_swap h (term_of x y) (term_of w v)

-- a change swaps with a further term
after_swap : (w v k old new h : ℕ) → toggled w v (hash_after h k old new) ≡ hash_after (toggled w v h) k old new
unfolding hash_after
after_swap w v k old new h = toggle_swap w v k new (toggled k old h) ∙ ap (toggled k new) (toggle_swap w v k old h)

-- ---- a section's terms after a change of one cell

module _ (cells : List ℕ) (i v : ℕ) where
  -- cells before the changed one
  terms-before : (k n : ℕ) → n ≤ k → terms_of (set cells (i * 4096 + k) v) i n ≡ terms_of cells i n
  unfolding terms_of
  terms-before k zero h = refl
  terms-before k (suc n) h =
      ap (λ (x : ℕ). toggled n x (terms_of (set cells (i * 4096 + k) v) i n)) (get_or-set_other cells (i * 4096 + k) (i * 4096 + n) v 0 (λ (e : i * 4096 + n ≡ i * 4096 + k). omega arith))
      ∙ ap (toggled n (get_or cells (i * 4096 + n) 0)) (terms-before k n (omega arith))

  -- the changed cell is among the first n
  terms_after : (k n : ℕ) → i * 4096 + k < length cells → k < n → terms_of (set cells (i * 4096 + k) v) i n ≡ hash_after (terms_of cells i n) k (get_or cells (i * 4096 + k) 0) v
  unfolding terms_of hash_after
  terms_after k zero l h = absurd (omega arith)
  terms_after k (suc n) l h = by (eqb n k) refl (terms_after k n l)
    where
      by : (t : Bool) → eqb n k ≡ t → (k < n → terms_of (set cells (i * 4096 + k) v) i n ≡ hash_after (terms_of cells i n) k (get_or cells (i * 4096 + k) 0) v)
          → toggled n (get_or (set cells (i * 4096 + k) v) (i * 4096 + n) 0) (terms_of (set cells (i * 4096 + k) v) i n) ≡ hash_after (toggled n (get_or cells (i * 4096 + n) 0) (terms_of cells i n)) k (get_or cells (i * 4096 + k) 0) v
      by true e ih =
          let p = eqb-true n k e in
          rw (p, get_or-set_same cells (i * 4096 + k) v 0 l, terms-before k k (omega arith), toggle_undo k (get_or cells (i * 4096 + k) 0) (terms_of cells i k))
      by false e ih =
          let p = eqb-false n k e in
          ap (λ (x : ℕ). toggled n x (terms_of (set cells (i * 4096 + k) v) i n)) (get_or-set_other cells (i * 4096 + k) (i * 4096 + n) v 0 (λ (q : i * 4096 + n ≡ i * 4096 + k). p (omega arith)))
          ∙ ap (toggled n (get_or cells (i * 4096 + n) 0)) (ih (strict p))
          ∙ after_swap n (get_or cells (i * 4096 + n) 0) k (get_or cells (i * 4096 + k) 0) v (terms_of cells i n)
        where
          strict : (n ≡ k → ⊥) → k < n
          strict q = omega arith

-- terms go by what the slots of the section hold
pub terms-same : (xs ys : List ℕ) (i n : ℕ) → ((k : ℕ) → k < n → get_or xs (i * 4096 + k) 0 ≡ get_or ys (i * 4096 + k) 0) → terms_of xs i n ≡ terms_of ys i n
unfolding terms_of
terms-same xs ys i zero h = refl
terms-same xs ys i (suc n) h = λ j. toggled n (h n (omega arith) j) (terms-same xs ys i n (λ k l. h k (omega arith)) j)

-- a change of the cell at index j moves its section's terms as the hash moves
pub terms_change : (cells : List ℕ) (j v : ℕ) → j < length cells → terms_of (set cells j v) (j / 4096) 4096 ≡ hash_after (terms_of cells (j / 4096) 4096) (j % 4096) (get_or cells j 0) v
terms_change cells j v l =
    let e : j / 4096 * 4096 + j % 4096 ≡ j = omega arith in
    subst (λ (m : ℕ). terms_of (set cells m v) (j / 4096) 4096 ≡ hash_after (terms_of cells (j / 4096) 4096) (j % 4096) (get_or cells m 0) v) e
    (terms_after cells (j / 4096) v (j % 4096) 4096 (omega arith) (omega arith))

-- another section's stay
pub terms_keep : (cells : List ℕ) (i j v : ℕ) → (j / 4096 ≡ i → ⊥) → terms_of (set cells j v) i 4096 ≡ terms_of cells i 4096
terms_keep cells i j v l = terms-same (set cells j v) cells i 4096 (λ k lk. get_or-set_other cells j (i * 4096 + k) v 0 (λ (e : i * 4096 + k ≡ j). l (omega arith)))

-- ---- occupied cells after a change of one cell

abbrev one : ℕ → ℕ
one v = cond (is_empty v) 0 1

module _ (cells : List ℕ) (j v : ℕ) where
  occupied-before : (n : ℕ) → n ≤ j → occupied (set cells j v) n ≡ occupied cells n
  unfolding occupied
  occupied-before zero h = refl
  occupied-before (suc n) h =
      ap (λ (x : ℕ). occupied (set cells j v) n + one x) (get_or-set_other cells j n v 0 (λ (e : n ≡ j). omega arith))
      ∙ ap (λ (m : ℕ). m + one (get_or cells n 0)) (occupied-before n (omega arith))

  pub occupied_change : (n : ℕ) → j < length cells → j < n → occupied (set cells j v) n + one (get_or cells j 0) ≡ occupied cells n + one v
  unfolding occupied
  occupied_change zero l h = absurd (omega arith)
  occupied_change (suc n) l h = by (eqb n j) refl (occupied_change n l)
    where
      by : (t : Bool) → eqb n j ≡ t → (j < n → occupied (set cells j v) n + one (get_or cells j 0) ≡ occupied cells n + one v)
          → occupied (set cells j v) n + one (get_or (set cells j v) n 0) + one (get_or cells j 0) ≡ occupied cells n + one (get_or cells n 0) + one v
      by true e ih =
          let p = eqb-true n j e in
          rw (p, get_or-set_same cells j v 0 l, occupied-before j (omega arith)) (omega arith)
      by false e ih =
          let p = eqb-false n j e in
          let q = ih (strict p) in
          rw (get_or-set_other cells j n v 0 p) (omega arith)
        where
          strict : (n ≡ j → ⊥) → j < n
          strict r = omega arith

-- solid moves as the count does
pub solid_change : (solid n m old v : ℕ) → solid ≡ n % 2 ^ 64 → m + one old ≡ n + one v → solid_after solid old v ≡ m % 2 ^ 64
unfolding solid_after
solid_change solid n m old v e h = by (is_empty old) (is_empty v) h
  where
    by : (s t : Bool) → m + cond s 0 1 ≡ n + cond t 0 1 → cond s (cond t solid ((solid + 1) % 2 ^ 64)) (cond t ((solid + (2 ^ 64 - 1)) % 2 ^ 64) solid) ≡ m % 2 ^ 64
    by true true q = e ∙ ap (λ (x : ℕ). x % 2 ^ 64) (omega arith)
    by true false q = ap (λ (x : ℕ). (x + 1) % 2 ^ 64) e ∙ mod-add-mod n (2 ^ 64) 1 ∙ ap (λ (x : ℕ). x % 2 ^ 64) (omega arith)
    by false true q =
        ap (λ (x : ℕ). (x + (2 ^ 64 - 1)) % 2 ^ 64) e
        ∙ mod-add-mod n (2 ^ 64) (2 ^ 64 - 1)
        ∙ ap (λ (x : ℕ). x % 2 ^ 64) (shift q)
        ∙ add-mod_right m (2 ^ 64)
      where
        shift : m + 1 ≡ n + 0 → n + (2 ^ 64 - 1) ≡ m + 2 ^ 64
        shift r = omega arith
    by false false q = e ∙ ap (λ (x : ℕ). x % 2 ^ 64) (omega arith)
