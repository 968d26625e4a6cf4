-- Boxes of a slice's mask as rectangles of slots, and tables of numbers.
use mathlib.Core.Path.{◌≡◌, refl, sym, ap, ◌∙◌, subst}
use mathlib.Core.Bool.{Bool, true, false, cond}
use mathlib.Core.List.{List, [], ◌∷◌, ◌++◌, map}
use mathlib.Core.Logic.{⊎_elim}
use Prim.Native.Nat.{ℕ, zero, suc, ◌+◌, ◌*◌, ◌-◌, ◌/◌, ◌%◌, ◌≤◌, ◌<◌, zero-le}
use native.Mathlib.Nat.{zero-add, add_assoc, mul-one, zero-mul, add-mul, div-one, div-add-mod', le_of_suc-le-suc, not-suc-le-zero, eq-or-lt_of_le, le_refl}
use native.Mathlib.Omega.{arith}
use borrow.Author.Tests.{ne_eqb}
use lib.Arith.{digits_div, digits_mod}
use lib.Dec.{eqb}
use lib.ListN.{get_or, length, length-append, get_or-append}
use lib.Seq.{get_or_at}
use Rattle.mesh.specs.Cover.{Each, seen, sum_to}
use Rattle.mesh.specs.Merge.{Box, Cuts, Dir, Member, box_at, clear_box, cut, cut_to, grow, limits, alike, size, total}
use Rattle.mesh.specs.Panels.{nokey, steps_of}
use Rattle.mesh.specs.Part.{table}
use Rattle.mesh.proofs.Boxes.{nonzeros, nz}
use Rattle.mesh.proofs.Merged.{Parted, each_append, merged, nth}
use Rattle.mesh.proofs.Upto.{upto_of}

-- ---- lists of which each is so

pub each_nth : (P : Box → Type 0) (bs : List Box) → Each P bs → (k : ℕ) → k < length bs → P (nth bs k)
each_nth P [] e k l = absurd (not-suc-le-zero l)
each_nth P (b ∷ bs) e zero l = e.0
each_nth P (b ∷ bs) e (suc k) l = each_nth P bs e.1 k (le_of_suc-le-suc l)

pub nth_each : (P : Box → Type 0) (bs : List Box) → ((k : ℕ) → k < length bs → P (nth bs k)) → Each P bs
nth_each P [] h = tt
nth_each P (b ∷ bs) h = (h 0 (omega arith), nth_each P bs (λ k l. h (suc k) (omega arith)))

pub each_map : {A B : Type 0} (P : A → Type 0) (Q : B → Type 0) (t : A → B) → ((a : A) → P a → Q (t a)) → (xs : List A) → Each P xs → Each Q (map t xs)
each_map P Q t h [] e = tt
each_map P Q t h (x ∷ xs) e = (h x e.0, each_map P Q t h xs e.1)

pub each_so : {A : Type 0} (P Q : A → Type 0) → ((a : A) → P a → Q a) → (xs : List A) → Each P xs → Each Q xs
each_so P Q h [] e = tt
each_so P Q h (x ∷ xs) e = (h x e.0, each_so P Q h xs e.1)

pub each_both : {A : Type 0} (P Q : A → Type 0) (xs : List A) → Each P xs → Each Q xs → Each (λ a. P a × Q a) xs
each_both P Q [] d e = tt
each_both P Q (x ∷ xs) d e = ((d.0, e.0), each_both P Q xs d.1 e.1)

-- ---- a box of a slice

-- rows of a mask w wide, at most n of them, each a run of at most a slots
pub record Rect (w a n : ℕ) (ds : List Dir) : Type 0 where
  pub dirs : ds ≡ record { stride = w; count = steps_of ds 0 } ∷ record { stride = 1; count = steps_of ds 1 } ∷ []
  pub across : steps_of ds 1 ≤ a
  pub down : steps_of ds 0 ≤ n

-- as far as the row and the rows go
abbrev pub Boxed : ℕ → ℕ → Box → Type 0
Boxed w h b = Rect w (w - b.start % w) (h - b.start / w) b.dirs

limits_two : (w h q : ℕ) → limits (h ∷ w ∷ []) q ≡ record { stride = 1; count = w - q % w } ∷ record { stride = w; count = h - q / w } ∷ []
unfolding limits total
limits_two w h q = rw (mul-one, div-one)

grown : (ok : ℕ → Bool) (p w a n : ℕ) → Rect w a n (grow ok p [] (record { stride = 1; count = a } ∷ record { stride = w; count = n } ∷ []))
unfolding grow steps_of
grown ok p w a n = record { dirs = refl; across = (upto_of _ a).most; down = (upto_of _ n).most }

rect : (w h : ℕ) (m : List ℕ) (q : ℕ) → Boxed w h (box_at (limits (h ∷ w ∷ [])) nokey m q)
unfolding box_at
rect w h m q = rw (limits_two w h q) (grown (alike nokey m q) q w (w - q % w) (h - q / w))

-- what holds of the box from any place of any mask holds of each that is cut
each-cut : (lim : ℕ → List Dir) (m : List ℕ) (P : Box → Type 0) → ((m : List ℕ) (q : ℕ) → P (box_at lim nokey m q)) → (n : ℕ) → Each P (cut_to lim nokey m n).boxes
unfolding cut_to cut
each-cut lim m P h zero = tt
each-cut lim m P h (suc q) = go (eqb (get_or s.mask q 0) 0) (each-cut lim m P h q)
  where
    s : Cuts
    s = cut_to lim nokey m q

    b : Box
    b = box_at lim nokey s.mask q

    go : (t : Bool) → Each P s.boxes → Each P (cond t s (record { mask = clear_box b.dirs q s.mask; boxes = s.boxes ++ b ∷ [] })).boxes
    go true e = e
    go false e = each_append P s.boxes (b ∷ []) e (h s.mask q, tt)

pub boxes_rect : (w h : ℕ) (m : List ℕ) (n : ℕ) → Each (Boxed w h) (cut_to (limits (h ∷ w ∷ [])) nokey m n).boxes
boxes_rect w h m n = each-cut (limits (h ∷ w ∷ [])) m (Boxed w h) (rect w h) n

pub slice_parted : (w h : ℕ) (m : List ℕ) → Parted nokey (h * w) m (cut_to (limits (h ∷ w ∷ [])) nokey m (h * w))
unfolding total
slice_parted w h m = subst (λ (n : ℕ). Parted nokey n m (cut_to (limits (h ∷ w ∷ [])) nokey m n)) (rw mul-one) (merged (h ∷ w ∷ []) nokey m)

-- the places of a rectangle: j along the row and i rows down from its start
pub record Inner (w p : ℕ) (ds : List Dir) (q : ℕ) : Type 0 where
  pub j : ℕ
  pub i : ℕ
  pub run : j < steps_of ds 1
  pub rows : i < steps_of ds 0
  pub u : q % w ≡ p % w + j
  pub v : q / w ≡ p / w + i

module _ (w n p : ℕ) (ds : List Dir) (r : Rect w (w - p % w) n ds) where
  pub member_inner : (q : ℕ) → Member p ds q → Inner w p ds q
  member_inner q m =
      let y = subst (λ (d : List Dir). Member p d q) r.dirs m in
      let i = y.0 in
      let j = y.2.0 in
      let fits : p % w + j < w = omega (arith, y.2.1, r.across) in
      let e : q ≡ (p / w + i) * w + (p % w + j) = omega (arith, y.2.2, div-add-mod' p w, add-mul (p / w) i w) in
      record {
        j = j;
        i = i;
        run = y.2.1;
        rows = y.1;
        u = ap (λ (x : ℕ). x % w) e ∙ digits_mod (p / w + i) fits;
        v = ap (λ (x : ℕ). x / w) e ∙ digits_div (p / w + i) fits;
      }

  pub inner_member : (j i : ℕ) → j < steps_of ds 1 → i < steps_of ds 0 → Member p ds ((p / w + i) * w + (p % w + j))
  inner_member j i lj li =
      subst (λ (d : List Dir). Member p d ((p / w + i) * w + (p % w + j))) (sym r.dirs)
      (i, li, (j, lj, omega (arith, div-add-mod' p w, add-mul (p / w) i w)))

  pub rect_size : size ds ≡ steps_of ds 0 * steps_of ds 1
  unfolding size
  rect_size = subst (λ (d : List Dir). size d ≡ steps_of ds 0 * steps_of ds 1) (sym r.dirs) (rw mul-one)

-- ---- tables and sums

pub length-table : (f : ℕ → ℕ) (n : ℕ) → length (table f n) ≡ n
unfolding table
length-table f zero = refl
length-table f (suc n) = length-append (table f n) (f n ∷ []) ∙ (let e = length-table f n in omega arith)

pub get_or-table : (f : ℕ → ℕ) (n q : ℕ) → q < n → get_or (table f n) q 0 ≡ f q
unfolding table
get_or-table f zero q l = absurd (not-suc-le-zero l)
get_or-table f (suc n) q l =
    ⊎_elim
    (λ e. rw e (get_or_at (table f n) (f n) [] 0 n (length-table f n)))
    (λ h. get_or-append (table f n) (f n ∷ []) 0 q (rw (length-table f n) h) ∙ get_or-table f n q h)
    (eq-or-lt_of_le (le_of_suc-le-suc l))

pub table_same : (f h : ℕ → ℕ) (n : ℕ) → ((q : ℕ) → q < n → f q ≡ h q) → table f n ≡ table h n
unfolding table
table_same f h zero e = refl
table_same f h (suc n) e = λ i. table_same f h n (λ q l. e q (omega arith)) i ++ (e n (le_refl _) i ∷ [])

pub sum_same : (f h : ℕ → ℕ) (n : ℕ) → ((q : ℕ) → q < n → f q ≡ h q) → sum_to f n ≡ sum_to h n
unfolding sum_to
sum_same f h zero e = refl
sum_same f h (suc n) e = λ i. sum_same f h n (λ q l. e q (omega arith)) i + e n (le_refl _) i

pub sum-most : (f h : ℕ → ℕ) (n : ℕ) → ((q : ℕ) → q < n → f q ≤ h q) → sum_to f n ≤ sum_to h n
unfolding sum_to
sum-most f h zero e = zero-le
sum-most f h (suc n) e = omega (arith, sum-most f h n (λ q l. e q (omega arith)), e n (le_refl _))

pub sum_const : (a n : ℕ) → sum_to (λ q. a) n ≡ n * a
unfolding sum_to
sum_const a zero = sym (zero-mul a)
sum_const a (suc n) = omega (arith, sum_const a n, add-mul n 1 a)

-- a sum whose other parts are 0
pub sum-none : (f : ℕ → ℕ) (n : ℕ) → ((q : ℕ) → q < n → f q ≡ 0) → sum_to f n ≡ 0
unfolding sum_to
sum-none f zero e = refl
sum-none f (suc n) e = omega (arith, sum-none f n (λ q l. e q (omega arith)), e n (le_refl _))

pub sum_only : (f : ℕ → ℕ) (n q : ℕ) → q < n → ((p : ℕ) → p < n → (p ≡ q → ⊥) → f p ≡ 0) → sum_to f n ≡ f q
unfolding sum_to
sum_only f zero q l e = absurd (not-suc-le-zero l)
sum_only f (suc n) q l e =
    ⊎_elim
    (λ x. rw x (let z = sum-none f n (λ p lp. e p (omega arith) (λ y. omega arith)) in omega arith))
    (λ h. let z = e n (le_refl _) (λ y. omega arith) in omega (arith, sum_only f n q h (λ p lp. e p (omega arith))))
    (eq-or-lt_of_le (le_of_suc-le-suc l))

pub seen_none : (x : ℕ) → x ≡ 0 → seen x ≡ 0
unfolding seen
seen_none x e = rw e

pub seen_one : (x : ℕ) → (x ≡ 0 → ⊥) → seen x ≡ 1
unfolding seen
seen_one x h = rw (ne_eqb x 0 h)

seen_most : (x : ℕ) → seen x ≤ 1
unfolding seen
seen_most x = go (eqb x 0)
  where
    go : (b : Bool) → cond b 0 1 ≤ 1
    go true = zero-le
    go false = le_refl _

pub seen-sum : (f : ℕ → ℕ) (n : ℕ) → sum_to (λ q. seen (f q)) n ≤ n
seen-sum f n = omega (arith, sum-most (λ q. seen (f q)) (λ q. 1) n (λ q l. seen_most (f q)), sum_const 1 n)

nz_seen : (x : ℕ) → nz x ≡ seen x
unfolding nz seen
nz_seen zero = refl
nz_seen (suc x) = sym (seen_one (suc x) (λ e. omega arith))

nonzeros_append : (xs ys : List ℕ) → nonzeros (xs ++ ys) ≡ nonzeros xs + nonzeros ys
unfolding nonzeros
nonzeros_append [] ys = sym (zero-add _)
nonzeros_append (x ∷ xs) ys = rw (nonzeros_append xs ys) (sym (add_assoc (nz x) (nonzeros xs) (nonzeros ys)))

pub nonzeros_table : (f : ℕ → ℕ) (n : ℕ) → nonzeros (table f n) ≡ sum_to (λ q. seen (f q)) n
unfolding table sum_to nonzeros
nonzeros_table f zero = refl
nonzeros_table f (suc n) = omega (arith, nonzeros_append (table f n) (f n ∷ []), nonzeros_table f n, nz_seen (f n))

pub nonzeros_none : (m : List ℕ) → ((q : ℕ) → get_or m q 0 ≡ 0) → nonzeros m ≡ 0
unfolding nonzeros nz
nonzeros_none [] h = refl
nonzeros_none (x ∷ m) h = rw (h 0) (zero-add _ ∙ nonzeros_none m (λ q. h (suc q)))
