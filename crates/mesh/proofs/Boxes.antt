-- Boxes grown, and what clearing one leaves; what is known of one cut.
use mathlib.Core.Path.{◌≡◌, refl, sym, ◌∙◌}
use mathlib.Core.Bool.{Bool, true}
use mathlib.Core.List.{List, [], ◌∷◌}
use mathlib.Core.Logic.{⊎_elim}
use Prim.Native.Nat.{ℕ, zero, suc, ◌+◌, ◌*◌, ◌≤◌, ◌<◌}
use native.Mathlib.Nat.{add-zero, zero-mul, suc-mul, mul-le-mul_right, le_of_suc-le-suc, not-suc-le-zero, eq-or-lt_of_le, le_refl}
use native.Mathlib.Omega.{arith}
use native.Mathlib.Decide.{ℕ_discrete}
use borrow.Author.Tests.{eqb-true, eq-eqb}
use lib.Dec.{eqb}
use lib.ListN.{get_or, set, length, length-set}
use lib.Seq.{get_or-set_other}
use Rattle.stand.proofs.Tests.{both}
use Rattle.mesh.specs.Merge.{Dir, upto, full, grow, rep, clear_box, Member, size, Box, alike, box_at}
use Rattle.mesh.proofs.Upto.{upto_of, upto-some, all-is, all_pass, row_fits}

-- ---- what passes

pub full_pass : (ok : ℕ → Bool) (p : ℕ) (ds : List Dir) (q : ℕ) → full ok p ds ≡ true → Member p ds q → ok q ≡ true
unfolding full
full_pass ok p [] q h e = rw e h
full_pass ok p (d ∷ ds) q h m = full_pass ok (p + m.0 * d.stride) ds q (all_pass (λ i. full ok (p + i * d.stride) ds) d.count m.0 h m.1) m.2

pub grow-full : (ok : ℕ → Bool) (p : ℕ) (done dirs : List Dir) → full ok p done ≡ true → full ok p (grow ok p done dirs) ≡ true
unfolding grow full
grow-full ok p done [] h = h
grow-full ok p done (d ∷ ds) h =
    let g : ℕ → Bool = λ i. full ok (p + i * d.stride) done in
    grow-full ok p (record { stride = d.stride; count = upto g d.count } ∷ done) ds (all-is g (upto g d.count) (upto_of g d.count).pass)

-- ---- the start is a place of its box

abbrev pub Some : List Dir → Type 0
Some [] = Unit {0}
Some (d ∷ ds) = (0 < d.count) × Some ds

pub some_member : (p : ℕ) (ds : List Dir) → Some ds → Member p ds p
some_member p [] s = refl
some_member p (d ∷ ds) s = (0, s.0, rw (zero-mul, add-zero) (some_member p ds s.1))

pub grow-some : (ok : ℕ → Bool) (p : ℕ) (done dirs : List Dir) → full ok p done ≡ true → Some done → Some dirs → Some (grow ok p done dirs)
unfolding grow full
grow-some ok p done [] h s t = s
grow-some ok p done (d ∷ ds) h s t =
    let g : ℕ → Bool = λ i. full ok (p + i * d.stride) done in
    let e : g 0 ≡ true = rw (zero-mul, add-zero) h in
    grow-some ok p (record { stride = d.stride; count = upto g d.count } ∷ done) ds (all-is g (upto g d.count) (upto_of g d.count).pass)
    (upto-some g d.count t.0 e, s) t.1

-- ---- a smaller box

-- ds has the strides of es, and no more steps along any
abbrev pub Under : List Dir → List Dir → Type 0
Under [] [] = Unit {0}
Under [] (e ∷ es) = ⊥
Under (d ∷ ds) [] = ⊥
Under (d ∷ ds) (e ∷ es) = (d.stride ≡ e.stride) × (d.count ≤ e.count) × Under ds es

-- the directions as a box has them
unfoldable pub onto : List Dir → List Dir → List Dir
onto done [] = done
onto done (d ∷ ds) = onto (d ∷ done) ds

pub under_member : (ds es : List Dir) (p q : ℕ) → Under ds es → Member p ds q → Member p es q
under_member [] [] p q u m = m
under_member [] (e ∷ es) p q u m = absurd u
under_member (d ∷ ds) [] p q u m = absurd u
under_member (d ∷ ds) (e ∷ es) p q u m = (m.0, omega (arith, m.1, u.1), under_member ds es (p + m.0 * e.stride) q u.2 (rw u.0 at m.2))

pub grow_under : (ok : ℕ → Bool) (p : ℕ) (done es dirs : List Dir) → Under done es → Under (grow ok p done dirs) (onto es dirs)
unfolding grow onto
grow_under ok p done es [] u = u
grow_under ok p done es (d ∷ ds) u =
    let g : ℕ → Bool = λ i. full ok (p + i * d.stride) done in
    grow_under ok p (record { stride = d.stride; count = upto g d.count } ∷ done) (d ∷ es) ds (refl, (upto_of g d.count).most, u)

-- ---- no two steps meet

unfoldable pub bound : List Dir → ℕ
bound [] = 1
bound (d ∷ ds) = d.count * d.stride

abbrev pub Radix : List Dir → Type 0
Radix [] = Unit {0}
Radix (d ∷ ds) = (bound ds ≤ d.stride) × Radix ds

under_bound : (ds es : List Dir) → Under ds es → bound ds ≤ bound es
unfolding bound
under_bound [] [] u = le_refl _
under_bound [] (e ∷ es) u = absurd u
under_bound (d ∷ ds) [] u = absurd u
under_bound (d ∷ ds) (e ∷ es) u = rw u.0 (mul-le-mul_right e.stride u.1)

pub under_radix : (ds es : List Dir) → Under ds es → Radix es → Radix ds
under_radix [] [] u r = tt
under_radix [] (e ∷ es) u r = absurd u
under_radix (d ∷ ds) [] u r = absurd u
under_radix (d ∷ ds) (e ∷ es) u r = (omega (arith, under_bound ds es u.2, u.0, r.0), under_radix ds es u.2 r.1)

pub member_range : (ds : List Dir) (p q : ℕ) → Radix ds → Member p ds q → (p ≤ q) × (q < p + bound ds)
unfolding bound
member_range [] p q r m = (omega arith, omega arith)
member_range (d ∷ ds) p q r m =
    let h = member_range ds (p + m.0 * d.stride) q r.1 m.2 in
    let f = row_fits d.stride d.count m.0 m.1 in
    (omega (arith, h), omega (arith, h, f, r.0))

-- ---- clearing

module _ (P : List ℕ → Type 0) (g : ℕ → List ℕ → List ℕ) where
  rep-keeps : (k : ℕ) (m : List ℕ) → ((i : ℕ) (m : List ℕ) → i < k → P m → P (g i m)) → P m → P (rep g k m)
  unfolding rep
  rep-keeps zero m h z = z
  rep-keeps (suc k) m h z = h k (rep g k m) (le_refl _) (rep-keeps k m (λ i m l. h i m (omega arith)) z)

  rep_makes : (k i : ℕ) (m : List ℕ) → i < k → ((m : List ℕ) → P (g i m)) → ((j : ℕ) (m : List ℕ) → P m → P (g j m)) → P (rep g k m)
  unfolding rep
  rep_makes zero i m l h keep = absurd (not-suc-le-zero l)
  rep_makes (suc k) i m l h keep =
      ⊎_elim (λ e. rw e at (h (rep g k m))) (λ lt. keep k (rep g k m) (rep_makes k i m lt h keep)) (eq-or-lt_of_le (le_of_suc-le-suc l))

set_same : (m : List ℕ) (p : ℕ) → get_or (set m p 0) p 0 ≡ 0
set_same [] p = refl
set_same (x ∷ m) zero = refl
set_same (x ∷ m) (suc p) = set_same m p

set-zero : (m : List ℕ) (p q : ℕ) → get_or m q 0 ≡ 0 → get_or (set m p 0) q 0 ≡ 0
set-zero m p q z = go (ℕ_discrete q p)
  where
    go : Dec (q ≡ p) → get_or (set m p 0) q 0 ≡ 0
    go (yes e) = rw e (set_same m p)
    go (no n) = get_or-set_other m p q 0 0 n ∙ z

pub clear_zero : (ds : List Dir) (p q : ℕ) (m : List ℕ) → get_or m q 0 ≡ 0 → get_or (clear_box ds p m) q 0 ≡ 0
unfolding clear_box
clear_zero [] p q m z = set-zero m p q z
clear_zero (d ∷ ds) p q m z =
    rep-keeps (λ m. get_or m q 0 ≡ 0) (λ i. clear_box ds (p + i * d.stride)) d.count m (λ i m l y. clear_zero ds (p + i * d.stride) q m y) z

pub clear_in : (ds : List Dir) (p q : ℕ) (m : List ℕ) → Member p ds q → get_or (clear_box ds p m) q 0 ≡ 0
unfolding clear_box
clear_in [] p q m e = rw e (set_same m p)
clear_in (d ∷ ds) p q m b =
    rep_makes (λ m. get_or m q 0 ≡ 0) (λ i. clear_box ds (p + i * d.stride)) d.count b.0 m b.1
    (λ m. clear_in ds (p + b.0 * d.stride) q m b.2) (λ j m y. clear_zero ds (p + j * d.stride) q m y)

pub clear_out : (ds : List Dir) (p q : ℕ) (m : List ℕ) → (Member p ds q → ⊥) → get_or (clear_box ds p m) q 0 ≡ get_or m q 0
unfolding clear_box
clear_out [] p q m n = get_or-set_other m p q 0 0 n
clear_out (d ∷ ds) p q m n =
    rep-keeps (λ m'. get_or m' q 0 ≡ get_or m q 0) (λ i. clear_box ds (p + i * d.stride)) d.count m
    (λ i m' l y. clear_out ds (p + i * d.stride) q m' (λ b. n (i, l, b)) ∙ y) refl

pub clear_length : (ds : List Dir) (p : ℕ) (m : List ℕ) → length (clear_box ds p m) ≡ length m
unfolding clear_box
clear_length [] p m = length-set m p 0
clear_length (d ∷ ds) p m =
    rep-keeps (λ m'. length m' ≡ length m) (λ i. clear_box ds (p + i * d.stride)) d.count m (λ i m' l y. clear_length ds (p + i * d.stride) m' ∙ y) refl

-- ---- counts

-- 0 of 0, and 1 of any other number
unfoldable pub nz : ℕ → ℕ
nz zero = 0
nz (suc x) = 1

-- how many numbers of the list are not 0
unfoldable pub nonzeros : List ℕ → ℕ
nonzeros [] = 0
nonzeros (x ∷ xs) = nz x + nonzeros xs

pub nz_one : (x : ℕ) → (x ≡ 0 → ⊥) → nz x ≡ 1
unfolding nz
nz_one zero h = absurd (h refl)
nz_one (suc x) h = refl

-- clearing a slot takes its 1 away
pub nonzeros_set : (m : List ℕ) (p : ℕ) → nonzeros (set m p 0) + nz (get_or m p 0) ≡ nonzeros m
unfolding nonzeros nz
nonzeros_set [] p = refl
nonzeros_set (x ∷ xs) zero = omega arith
nonzeros_set (x ∷ xs) (suc p) = omega (arith, nonzeros_set xs p)

-- clearing places that are not 0 takes one for each
pub clear_count : (ds : List Dir) (p : ℕ) (m : List ℕ) → Radix ds → ((q : ℕ) → Member p ds q → get_or m q 0 ≡ 0 → ⊥)
    → nonzeros (clear_box ds p m) + size ds ≡ nonzeros m
unfolding clear_box size rep
clear_count [] p m r h = omega (arith, nonzeros_set m p, nz_one (get_or m p 0) (h p refl))
clear_count (d ∷ ds) p m r h = steps (λ p' m' n. clear_count ds p' m' r.1 n) d.count (le_refl _)
  where
    g : ℕ → List ℕ → List ℕ
    g i = clear_box ds (p + i * d.stride)

    apart : (k q : ℕ) → k < d.count → Member (p + k * d.stride) ds q → get_or (rep g k m) q 0 ≡ get_or m q 0
    apart k q l b =
        rep-keeps (λ m'. get_or m' q 0 ≡ get_or m q 0) g k m
        (λ i m' li y. clear_out ds (p + i * d.stride) q m'
        (λ b'.
        let u = member_range ds (p + k * d.stride) q r.1 b in
        let v = member_range ds (p + i * d.stride) q r.1 b' in
        omega (arith, u, v, r.0, row_fits d.stride k i li)) ∙ y) refl

    steps : ((p' : ℕ) (m' : List ℕ) → ((q : ℕ) → Member p' ds q → get_or m' q 0 ≡ 0 → ⊥) → nonzeros (clear_box ds p' m') + size ds ≡ nonzeros m')
        → (k : ℕ) → k ≤ d.count → nonzeros (rep g k m) + k * size ds ≡ nonzeros m
    steps ih zero l = rw zero-mul (add-zero _)
    steps ih (suc k) l =
        let a = steps ih k (omega arith) in
        let b = ih (p + k * d.stride) (rep g k m) (λ q y z. h q (k, l, y) (sym (apart k q l y) ∙ z)) in
        omega (arith, suc-mul k (size ds))

-- ---- one cut

-- n places, and from each the directions stay among them
pub record Geometry (lim : ℕ → List Dir) (n : ℕ) : Type 0 where
  pub some : (q : ℕ) → q < n → Some (lim q)
  pub within : (q r : ℕ) → q < n → Member q (onto [] (lim q)) r → r < n
  pub radix : (q : ℕ) → q < n → Radix (onto [] (lim q))

-- m' is m with the box b cut out
pub record CutOut (key : ℕ → ℕ) (n : ℕ) (m m' : List ℕ) (b : Box) : Type 0 where
  pub seen : b.value ≡ 0 → ⊥
  pub start_in : Member b.start b.dirs b.start
  pub inside : (q : ℕ) → Member b.start b.dirs q → q < n
  pub was : (q : ℕ) → Member b.start b.dirs q → get_or m q 0 ≡ b.value
  pub keyed : (q : ℕ) → Member b.start b.dirs q → key q ≡ key b.start
  pub gone : (q : ℕ) → Member b.start b.dirs q → get_or m' q 0 ≡ 0
  pub rest : (q : ℕ) → (Member b.start b.dirs q → ⊥) → get_or m' q 0 ≡ get_or m q 0
  pub fewer : nonzeros m' + size b.dirs ≡ nonzeros m
  pub same_length : length m' ≡ length m

pub alike_self : (key : ℕ → ℕ) (m : List ℕ) (q : ℕ) → alike key m q q ≡ true
unfolding alike
alike_self key m q = rw (eq-eqb (key q) (key q) refl, eq-eqb (get_or m q 0) (get_or m q 0) refl)

pub cut_out : (lim : ℕ → List Dir) (key : ℕ → ℕ) (n : ℕ) (m : List ℕ) (q : ℕ) → Geometry lim n → q < n → (get_or m q 0 ≡ 0 → ⊥)
    → CutOut key n m (clear_box (box_at lim key m q).dirs q m) (box_at lim key m q)
unfolding box_at full alike
cut_out lim key n m q geo l seen =
    let ok = alike key m q in
    let ds = grow ok q [] (lim q) in
    let u = grow_under ok q [] [] (lim q) tt in
    let h : ok q ≡ true = alike_self key m q in
    let f = grow-full ok q [] (lim q) h in
    let was : (r : ℕ) → Member q ds r → get_or m r 0 ≡ get_or m q 0 = λ r b. eqb-true (get_or m r 0) (get_or m q 0) (both (eqb (key r) (key q)) (eqb (get_or m r 0) (get_or m q 0)) (full_pass ok q ds r f b)).1 in
    record {
      seen = seen;
      start_in = some_member q ds (grow-some ok q [] (lim q) h tt (geo.some q l));
      inside = λ r b. geo.within q r l (under_member ds (onto [] (lim q)) q r u b);
      was = was;
      keyed = λ r b. eqb-true (key r) (key q) (both (eqb (key r) (key q)) (eqb (get_or m r 0) (get_or m q 0)) (full_pass ok q ds r f b)).0;
      gone = λ r b. clear_in ds q r m b;
      rest = λ r b. clear_out ds q r m b;
      fewer = clear_count ds q m (under_radix ds (onto [] (lim q)) u (geo.radix q l)) (λ r b z. seen (sym (was r b) ∙ z));
      same_length = clear_length ds q m;
    }
