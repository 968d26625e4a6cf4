-- Runs and rows of a mask, and what clearing them leaves.
use Rattle.std.specs.List.{fold, position, prefix_len, slice_range}
use Rattle.std.specs.Option.{unwrap_or}
use Rattle.std.specs.Prelude.{Some, None, ◌==◌}
use Rattle.std.proofs.lemmas.List.{get_or-drop, get_or-take}
use Rattle.std.proofs.lemmas.List.Sums.{prefix_len-le-length, prefix_len_passes, prefix_len_stops}
use mathlib.Core.Path.{◌≡◌, refl, sym, ap, ◌∙◌}
use mathlib.Core.Bool.{Bool, true, false, cond, not, not-not}
use mathlib.Core.List.{List, [], ◌∷◌}
use Prim.Native.Nat.{ℕ, zero, suc, ◌+◌, ◌-◌, ◌*◌, ◌≤◌, ◌<◌}
use native.Mathlib.Nat.{add-zero, zero-mul, suc-mul}
use native.Mathlib.Omega.{arith}
use borrow.Author.Tests.{eqb-true, eqb-false, eq-eqb, ltb-false, ne_eqb}
use lib.Bits.{bit_or}
use lib.Dec.{eqb, ltb}
use lib.ListN.{drop, get_or, length, length-drop, length-set}
use lib.Seq.{get_or-set_other, length-take-le}
use Rattle.mesh.specs.Merge.{upto}
use Rattle.mesh.specs.Scan.{run_len, rows_len, clear_run, clear_rect}
use Rattle.mesh.proofs.Laid.{or_none}
use Rattle.mesh.proofs.Upto.{upto_is, upto_of, upto-same, upto-some, upto_all}

-- ---- how long a run is

module _ (m : List ℕ) (p k x : ℕ) where
  pub run_is : (n : ℕ) → n ≤ k → ((i : ℕ) → i < n → get_or m (p + i) 0 ≡ x) → (n < k → get_or m (p + n) 0 ≡ x → ⊥) → n ≡ run_len m p k x
  unfolding run_len
  run_is n le all end =
      sym (upto_is (λ i. eqb (get_or m (p + i) 0) x) k n
      (record { most = le; pass = λ i l. eq-eqb (get_or m (p + i) 0) x (all i l); stop = λ l. ne_eqb (get_or m (p + n) 0) x (end l) }))

  pub run-most : run_len m p k x ≤ k
  unfolding run_len
  run-most = (upto_of (λ i. eqb (get_or m (p + i) 0) x) k).most

  pub run_pass : (i : ℕ) → i < run_len m p k x → get_or m (p + i) 0 ≡ x
  unfolding run_len
  run_pass i l = eqb-true (get_or m (p + i) 0) x ((upto_of (λ i. eqb (get_or m (p + i) 0) x) k).pass i l)

  pub run_stop : run_len m p k x < k → get_or m (p + run_len m p k x) 0 ≡ x → ⊥
  unfolding run_len
  run_stop l = eqb-false (get_or m (p + run_len m p k x) 0) x ((upto_of (λ i. eqb (get_or m (p + i) 0) x) k).stop l)

  pub run-some : 0 < k → get_or m p 0 ≡ x → 0 < run_len m p k x
  unfolding run_len
  run-some l e = upto-some (λ i. eqb (get_or m (p + i) 0) x) k l (rw add-zero (eq-eqb (get_or m p 0) x e))

  pub run-all : ((i : ℕ) → i < k → get_or m (p + i) 0 ≡ x) → run_len m p k x ≡ k
  unfolding run_len
  run-all all = upto_all (λ i. eqb (get_or m (p + i) 0) x) k (λ i l. eq-eqb (get_or m (p + i) 0) x (all i l))

pub run-alike : (m m' : List ℕ) (p p' k x : ℕ) → ((i : ℕ) → i < k → get_or m (p + i) 0 ≡ get_or m' (p' + i) 0) → run_len m p k x ≡ run_len m' p' k x
unfolding run_len
run-alike m m' p p' k x h =
    upto-same (λ i. eqb (get_or m (p + i) 0) x) (λ i. eqb (get_or m' (p' + i) 0) x) k (λ i l. ap (λ (y : ℕ). eqb y x) (h i l))

-- ---- how many rows

module _ (m : List ℕ) (w p run k x : ℕ) where
  pub rows_is : (n : ℕ) → n ≤ k → ((j : ℕ) → j < n → run_len m (p + j * w) run x ≡ run) → (n < k → run_len m (p + n * w) run x ≡ run → ⊥)
      → n ≡ rows_len m w p run k x
  unfolding rows_len
  rows_is n le all end =
      sym (upto_is (λ j. eqb (run_len m (p + j * w) run x) run) k n
      (record { most = le; pass = λ j l. eq-eqb (run_len m (p + j * w) run x) run (all j l); stop = λ l. ne_eqb (run_len m (p + n * w) run x) run (end l) }))

  pub rows-most : rows_len m w p run k x ≤ k
  unfolding rows_len
  rows-most = (upto_of (λ j. eqb (run_len m (p + j * w) run x) run) k).most

  pub rows-some : 0 < k → ((i : ℕ) → i < run → get_or m (p + i) 0 ≡ x) → 0 < rows_len m w p run k x
  unfolding rows_len
  rows-some l all = upto-some (λ j. eqb (run_len m (p + j * w) run x) run) k l (rw (zero-mul, add-zero) (eq-eqb (run_len m p run x) run (run-all m p run x all)))

-- ---- clearing

-- what lies past the run, or past the rows, stays
pub run-later : (m : List ℕ) (p k q : ℕ) → p + k ≤ q → get_or (clear_run m p k) q 0 ≡ get_or m q 0
unfolding clear_run
run-later m p zero q l = refl
run-later m p (suc k) q l = get_or-set_other (clear_run m p k) (p + k) q 0 0 (λ e. omega arith) ∙ run-later m p k q (omega arith)

pub rect_later : (m : List ℕ) (w p run j q : ℕ) → run ≤ w → p + j * w ≤ q → get_or (clear_rect m w p run j) q 0 ≡ get_or m q 0
unfolding clear_rect
rect_later m w p run zero q lr l = refl
rect_later m w p run (suc j) q lr l =
    let a = suc-mul j w in
    run-later (clear_rect m w p run j) (p + j * w) run q (omega arith) ∙ rect_later m w p run j q lr (omega arith)

pub length-clear_run : (m : List ℕ) (p k : ℕ) → length (clear_run m p k) ≡ length m
unfolding clear_run
length-clear_run m p zero = refl
length-clear_run m p (suc k) = length-set (clear_run m p k) (p + k) 0 ∙ length-clear_run m p k

pub length-clear_rect : (m : List ℕ) (w p run j : ℕ) → length (clear_rect m w p run j) ≡ length m
unfolding clear_rect
length-clear_rect m w p run zero = refl
length-clear_rect m w p run (suc j) = length-clear_run (clear_rect m w p run j) (p + j * w) run ∙ length-clear_rect m w p run j

-- ---- the first row apart from the others

below : (w p j : ℕ) → p + suc j * w ≡ p + w + j * w
below w p j = omega (arith, suc-mul j w)

pub rows-first : (m : List ℕ) (w p run k x : ℕ) → run ≤ w → ((i : ℕ) → i < run → get_or m (p + i) 0 ≡ x)
    → rows_len m w p run (suc k) x ≡ suc (rows_len (clear_run m p run) w (p + w) run k x)
unfolding rows_len upto
rows-first m w p run k x lr all =
    let m' = clear_run m p run in
    let first : eqb (run_len m (p + 0 * w) run x) run ≡ true = rw (zero-mul, add-zero) (eq-eqb (run_len m p run x) run (run-all m p run x all)) in
    let later : (j : ℕ) → run_len m (p + suc j * w) run x ≡ run_len m' (p + w + j * w) run x =
    λ j. run-alike m m' (p + suc j * w) (p + w + j * w) run x
    (λ i l. rw (below w p j) (sym (run-later m p run (p + w + j * w + i) (omega arith)))) in
    rw first
    (ap suc
    (upto-same (λ j. eqb (run_len m (p + suc j * w) run x) run) (λ j. eqb (run_len m' (p + w + j * w) run x) run) k
    (λ j l. ap (λ (n : ℕ). eqb n run) (later j))))

pub clear_first : (m : List ℕ) (w p run k : ℕ) → clear_rect m w p run (suc k) ≡ clear_rect (clear_run m p run) w (p + w) run k
unfolding clear_rect
clear_first m w p run zero = rw (zero-mul, add-zero)
clear_first m w p run (suc k) =
    rw (below w p k) (ap (λ (l : List ℕ). clear_run l (p + w + k * w) run) (clear_first m w p run k))

-- ---- by the library's words

-- the first slot that does not hold x ends the run
pub run_first : (m : List ℕ) (p k x : ℕ) → p + k ≤ length m → unwrap_or (position (λ y. not (y == x)) (slice_range m p (p + k))) k ≡ run_len m p k x
run_first m p k x h = go (ltb n (length xs)) refl ∙ run_is m p k x n most (λ i l. sym (at i (omega (arith, most))) ∙ pass i l) stop
  where
    xs : List ℕ
    xs = slice_range m p (p + k)

    q : ℕ → Bool
    q y = not (not (y == x))

    n : ℕ
    n = prefix_len q xs

    long : length xs ≡ k
    long = length-take-le (p + k - p) (drop p m) (omega (arith, length-drop p m)) ∙ omega arith

    most : n ≤ k
    most = omega (arith, prefix_len-le-length q xs, long)

    at : (i : ℕ) → i < k → get_or xs i 0 ≡ get_or m (p + i) 0
    at i l = get_or-take (p + k - p) (drop p m) i 0 (omega arith) ∙ get_or-drop p m i 0

    pass : (i : ℕ) → i < n → get_or xs i 0 ≡ x
    pass i l = eqb-true _ _ (sym (not-not _) ∙ prefix_len_passes q xs i 0 l)

    stop : n < k → get_or m (p + n) 0 ≡ x → ⊥
    stop l e = eqb-false _ _ (sym (not-not _) ∙ prefix_len_stops q xs 0 (omega (arith, long))) (at n l ∙ e)

    go : (b : Bool) → ltb n (length xs) ≡ b → unwrap_or (cond b (Some n) None) k ≡ n
    go true e = refl
    go false e = omega (arith, ltb-false n (length xs) e, most, long)

-- no bit in any of the slots
pub fold_none : (xs : List ℕ) (a : ℕ) → fold bit_or a xs ≡ 0 → (a ≡ 0) × ((i : ℕ) → i < length xs → get_or xs i 0 ≡ 0)
fold_none [] a e = (e, λ i l. absurd (omega arith))
fold_none (x ∷ xs) a e =
    let t = fold_none xs (bit_or a x) e in
    let o = or_none a x t.0 in
    (o.0, go o.1 t.1)
  where
    go : x ≡ 0 → ((i : ℕ) → i < length xs → get_or xs i 0 ≡ 0) → (i : ℕ) → i < length (x ∷ xs) → get_or (x ∷ xs) i 0 ≡ 0
    go z t zero l = z
    go z t (suc i) l = t i (omega arith)
