-- The theorem of merging: the boxes cut from a mask of any sizes part the places that were not 0.
use mathlib.Core.Path.{◌≡◌, refl, sym, ap, ◌∙◌}
use mathlib.Core.Bool.{Bool, true, false, cond}
use mathlib.Core.List.{List, [], ◌∷◌, ◌++◌}
use mathlib.Core.Logic.{⊎_elim}
use Prim.Native.Nat.{ℕ, zero, suc, ◌+◌, ◌*◌, ◌-◌, ◌/◌, ◌%◌, ◌≤◌, ◌<◌, zero-le}
use native.Mathlib.Nat.{zero-add, add_assoc, add-mul, mul-zero, mul-pos, mul-le-mul_right, mod-lt, div-add-mod', div-lt_iff_lt-mul, le_of_suc-le-suc, not-suc-le-zero, eq-or-lt_of_le, le_refl}
use native.Mathlib.Omega.{arith}
use borrow.Author.Tests.{eqb-true, eqb-false, eq-eqb}
use lib.Dec.{eqb}
use lib.ListN.{get_or, length}
use Rattle.mesh.specs.Cover.{Each}
use Rattle.mesh.specs.Merge.{Dir, Member, Box, Cuts, box_at, clear_box, cut, cut_to, size, total, limits}
use Rattle.mesh.proofs.Upto.{row_fits}
use Rattle.mesh.proofs.Boxes.{nz, nz_one, nonzeros, Some, onto, bound, Geometry, CutOut, cut_out, clear_zero}

-- ---- what the theorem says

unfoldable pub sizes : List Box → ℕ
sizes [] = 0
sizes (b ∷ bs) = size b.dirs + sizes bs

-- the box lies among the n places, holds its start, and each place of it held its value, which is not 0, and has one key
pub record Held (key : ℕ → ℕ) (n : ℕ) (m : List ℕ) (b : Box) : Type 0 where
  pub seen : b.value ≡ 0 → ⊥
  pub start_in : Member b.start b.dirs b.start
  pub inside : (q : ℕ) → Member b.start b.dirs q → q < n
  pub held : (q : ℕ) → Member b.start b.dirs q → get_or m q 0 ≡ b.value
  pub keyed : (q : ℕ) → Member b.start b.dirs q → key q ≡ key b.start

-- the kth box
abbrev pub nth : List Box → ℕ → Box
nth bs k = get_or bs k (record { start = 0; dirs = []; value = 0 })

-- the place q lies in one box of the list and in no other, and that one has the value x
pub record Owner (bs : List Box) (q x : ℕ) : Type 0 where
  pub index : ℕ
  pub listed : index < length bs
  pub has : Member (nth bs index).start (nth bs index).dirs q
  pub value : (nth bs index).value ≡ x
  pub only : (k : ℕ) → k < length bs → Member (nth bs k).start (nth bs k).dirs q → k ≡ index

-- of a mask m of n places and what is left after all are cut:
--     each       a box holds only places that were not 0
--     owner      a place that was not 0 lies in exactly one box, which has its value
--     sum        the boxes' places together are those that were not 0, and no more than n
--     few        there are no more boxes than places that were not 0
--     cleared    the n places are 0 afterwards, and those beyond are as they were
pub record Parted (key : ℕ → ℕ) (n : ℕ) (m : List ℕ) (s : Cuts) : Type 0 where
  pub each : Each (Held key n m) s.boxes
  pub owner : (q : ℕ) → q < n → (get_or m q 0 ≡ 0 → ⊥) → Owner s.boxes q (get_or m q 0)
  pub sum : sizes s.boxes + nonzeros s.mask ≡ nonzeros m
  pub room : sizes s.boxes ≤ n
  pub few : length s.boxes ≤ sizes s.boxes
  pub cleared : (q : ℕ) → q < n → get_or s.mask q 0 ≡ 0
  pub beyond : (q : ℕ) → n ≤ q → get_or s.mask q 0 ≡ get_or m q 0
  pub same_length : length s.mask ≡ length m

-- ---- how often a list of boxes has a place

unfoldable any : (ℕ → Bool) → ℕ → Bool
any f zero = false
any f (suc n) = cond (f n) true (any f n)

unfoldable has : ℕ → List Dir → ℕ → Bool
has p [] q = eqb q p
has p (d ∷ ds) q = any (λ i. has (p + i * d.stride) ds q) d.count

unfoldable box_covers : List Box → ℕ → ℕ
box_covers [] q = 0
box_covers (b ∷ bs) q = cond (has b.start b.dirs q) 1 0 + box_covers bs q

absurd_bool : true ≡ false → ⊥
absurd_bool e = let z : ◌≡◌ {A = ℕ} 0 1 = cc in omega arith

any_yes : (f : ℕ → Bool) (n i : ℕ) → i < n → f i ≡ true → any f n ≡ true
unfolding any
any_yes f zero i l e = absurd (not-suc-le-zero l)
any_yes f (suc n) i l e = ⊎_elim (λ x. rw (rw x at e)) (λ lt. rw (any_yes f n i lt e) (go (f n))) (eq-or-lt_of_le (le_of_suc-le-suc l))
  where
    go : (b : Bool) → cond b true true ≡ true
    go true = refl
    go false = refl

any_no : (f : ℕ → Bool) (n : ℕ) → any f n ≡ true → (i : ℕ) × (i < n) × (f i ≡ true)
unfolding any
any_no f zero e = absurd (absurd_bool (sym e))
any_no f (suc n) e = go (f n) refl e (any_no f n)
  where
    go : (b : Bool) → f n ≡ b → cond b true (any f n) ≡ true → (any f n ≡ true → (i : ℕ) × (i < n) × (f i ≡ true)) → (i : ℕ) × (i < suc n) × (f i ≡ true)
    go true x y ih = (n, le_refl _, x)
    go false x y ih = let r = ih y in (r.0, omega (arith, r.1), r.2)

has_yes : (p : ℕ) (ds : List Dir) (q : ℕ) → Member p ds q → has p ds q ≡ true
unfolding has
has_yes p [] q m = eq-eqb q p m
has_yes p (d ∷ ds) q m = any_yes (λ i. has (p + i * d.stride) ds q) d.count m.0 m.1 (has_yes (p + m.0 * d.stride) ds q m.2)

has_no : (p : ℕ) (ds : List Dir) (q : ℕ) → has p ds q ≡ true → Member p ds q
unfolding has
has_no p [] q e = eqb-true q p e
has_no p (d ∷ ds) q e =
    let r = any_no (λ i. has (p + i * d.stride) ds q) d.count e in
    (r.0, r.1, has_no (p + r.0 * d.stride) ds q r.2)

covers-append : (xs ys : List Box) (q : ℕ) → box_covers (xs ++ ys) q ≡ box_covers xs q + box_covers ys q
unfolding box_covers
covers-append [] ys q = sym (zero-add _)
covers-append (x ∷ xs) ys q = rw (covers-append xs ys q) (sym (add_assoc (cond (has x.start x.dirs q) 1 0) (box_covers xs q) (box_covers ys q)))

sizes_append : (xs ys : List Box) → sizes (xs ++ ys) ≡ sizes xs + sizes ys
unfolding sizes
sizes_append [] ys = sym (zero-add _)
sizes_append (x ∷ xs) ys = rw (sizes_append xs ys) (sym (add_assoc (size x.dirs) (sizes xs) (sizes ys)))

pub each_append : {A : Type 0} (P : A → Type 0) (xs ys : List A) → Each P xs → Each P ys → Each P (xs ++ ys)
each_append P [] ys a b = b
each_append P (x ∷ xs) ys a b = (a.0, each_append P xs ys a.1 b)

pub each_parts : {A : Type 0} (P : A → Type 0) (xs ys : List A) → Each P (xs ++ ys) → Each P xs × Each P ys
each_parts P [] ys e = (tt, e)
each_parts P (x ∷ xs) ys e = let r = each_parts P xs ys e.1 in ((e.0, r.0), r.1)

-- ---- one cut more

record So (key : ℕ → ℕ) (n : ℕ) (m : List ℕ) (s : Cuts) : Type 0 where
  same_length : length s.mask ≡ length m
  kept : (q : ℕ) → q < n → (get_or s.mask q 0 ≡ 0 → ⊥) → get_or s.mask q 0 ≡ get_or m q 0
  counts : (q : ℕ) → q < n → box_covers s.boxes q + nz (get_or s.mask q 0) ≡ nz (get_or m q 0)
  each : Each (Held key n m) s.boxes
  beyond : (q : ℕ) → n ≤ q → get_or s.mask q 0 ≡ get_or m q 0
  total : sizes s.boxes + nonzeros s.mask ≡ nonzeros m

module _ (key : ℕ → ℕ) (n : ℕ) (m : List ℕ) (s : Cuts) (o : So key n m s) {m' : List ℕ} {b : Box} (c : CutOut key n s.mask m' b) where
  p : ℕ
  p = b.start

  out : (q : ℕ) → has p b.dirs q ≡ false → get_or m' q 0 ≡ get_or s.mask q 0
  unfolding p
  out q e = c.rest q (λ y. absurd_bool (sym (has_yes p b.dirs q y) ∙ e))

  cut-kept : (q : ℕ) → q < n → (get_or m' q 0 ≡ 0 → ⊥) → get_or m' q 0 ≡ get_or m q 0
  unfolding p
  cut-kept q l ne = go (has p b.dirs q) refl
    where
      go : (t : Bool) → has p b.dirs q ≡ t → get_or m' q 0 ≡ get_or m q 0
      go true e = absurd (ne (c.gone q (has_no p b.dirs q e)))
      go false e = out q e ∙ o.kept q l (λ z. ne (out q e ∙ z))

  cut-counts : (q : ℕ) → q < n → box_covers (s.boxes ++ b ∷ []) q + nz (get_or m' q 0) ≡ nz (get_or m q 0)
  unfolding box_covers nz p
  cut-counts q l = rw covers-append (go (has p b.dirs q) refl)
    where
      go : (t : Bool) → has p b.dirs q ≡ t → box_covers s.boxes q + (cond t 1 0 + 0) + nz (get_or m' q 0) ≡ nz (get_or m q 0)
      go true e =
          let y = has_no p b.dirs q e in
          let z : nz (get_or m' q 0) ≡ 0 = ap nz (c.gone q y) in
          let x = nz_one (get_or s.mask q 0) (λ x. c.seen (sym (c.was q y) ∙ x)) in
          omega (arith, o.counts q l)
      go false e = let k = ap nz (out q e) in omega (arith, o.counts q l)

  cut_so : So key n m (record { mask = m'; boxes = s.boxes ++ b ∷ [] })
  unfolding sizes
  cut_so =
      record {
        same_length = c.same_length ∙ o.same_length;
        kept = cut-kept;
        counts = cut-counts;
        each = each_append (Held key n m) s.boxes (b ∷ []) o.each (
          record {
            seen = c.seen;
            start_in = c.start_in;
            inside = c.inside;
            held = λ q y. sym (o.kept q (c.inside q y) (λ z. c.seen (sym (c.was q y) ∙ z))) ∙ c.was q y;
            keyed = c.keyed;
          },
          tt,
        );
        beyond = λ q l. c.rest q (λ y. omega (arith, c.inside q y)) ∙ o.beyond q l;
        total = omega (arith, sizes_append s.boxes (b ∷ []), c.fewer, o.total);
      }

-- ---- the theorem, for any directions that stay among the places

uncovered : (bs : List Box) (q k : ℕ) → box_covers bs q ≡ 0 → k < length bs → Member (nth bs k).start (nth bs k).dirs q → ⊥
unfolding box_covers
uncovered [] q k e l n = not-suc-le-zero l
uncovered (b ∷ bs) q zero e l n = let t : ◌≡◌ {A = ℕ} (cond (has b.start b.dirs q) 1 0) 1 = rw (has_yes b.start b.dirs q n) in omega arith
uncovered (b ∷ bs) q (suc k) e l n = uncovered bs q k (omega arith) (le_of_suc-le-suc l) n

owner_of : (key : ℕ → ℕ) (n : ℕ) (m : List ℕ) (bs : List Box) (q : ℕ) → Each (Held key n m) bs → box_covers bs q ≡ 1 → Owner bs q (get_or m q 0)
unfolding box_covers
owner_of key n m [] q g e = absurd (omega arith)
owner_of key n m (b ∷ bs) q g e = go (has b.start b.dirs q) refl (owner_of key n m bs q g.1)
  where
    t : Bool
    t = has b.start b.dirs q

    first : t ≡ true → (k : ℕ) → k < suc (length bs) → Member (nth (b ∷ bs) k).start (nth (b ∷ bs) k).dirs q → k ≡ 0
    first y zero l i = refl
    first y (suc k) l i =
        let c : ◌≡◌ {A = ℕ} (cond t 1 0) 1 = rw y in
        absurd (uncovered bs q k (omega arith) (le_of_suc-le-suc l) i)

    later : t ≡ false → (o : Owner bs q (get_or m q 0)) (k : ℕ) → k < suc (length bs) → Member (nth (b ∷ bs) k).start (nth (b ∷ bs) k).dirs q → k ≡ suc o.index
    later y o zero l i = absurd (absurd_bool (sym (has_yes b.start b.dirs q i) ∙ y))
    later y o (suc k) l i = ap suc (o.only k (le_of_suc-le-suc l) i)

    go : (c : Bool) → t ≡ c → (box_covers bs q ≡ 1 → Owner bs q (get_or m q 0)) → Owner (b ∷ bs) q (get_or m q 0)
    go true y f =
        let i = has_no b.start b.dirs q y in
        record { index = 0; listed = omega arith; has = i; value = sym (g.0.held q i); only = first y }
    go false y f =
        let c : ◌≡◌ {A = ℕ} (cond t 1 0) 0 = rw y in
        let o = f (omega arith) in
        record { index = suc o.index; listed = omega (arith, o.listed); has = o.has; value = o.value; only = later y o }

-- a box with a place has a size
member_size : (ds : List Dir) (p q : ℕ) → Member p ds q → 0 < size ds
unfolding size
member_size [] p q e = omega arith
member_size (d ∷ ds) p q b = mul-pos (omega (arith, b.1)) (member_size ds (p + b.0 * d.stride) q b.2)

each-few : (key : ℕ → ℕ) (n : ℕ) (m : List ℕ) (bs : List Box) → Each (Held key n m) bs → length bs ≤ sizes bs
unfolding sizes
each-few key n m [] g = zero-le
each-few key n m (b ∷ bs) g = omega (arith, member_size b.dirs b.start b.start g.0.start_in, each-few key n m bs g.1)

nz_most : (x : ℕ) → nz x ≤ 1
unfolding nz
nz_most zero = omega arith
nz_most (suc x) = omega arith

-- lists that agree from n on differ in n counts at most
nonzeros_most : (n : ℕ) (m m' : List ℕ) → length m' ≡ length m → ((q : ℕ) → n ≤ q → get_or m' q 0 ≡ get_or m q 0) → nonzeros m ≤ nonzeros m' + n
unfolding nonzeros
nonzeros_most n [] m' e h = zero-le
nonzeros_most n (x ∷ xs) [] e h = absurd (omega arith)
nonzeros_most zero (x ∷ xs) (y ∷ ys) e h =
    let a = ap nz (h 0 zero-le) in
    omega (arith, nonzeros_most 0 xs ys (omega arith) (λ q l. h (suc q) zero-le))
nonzeros_most (suc n) (x ∷ xs) (y ∷ ys) e h =
    omega (arith, nz_most x, nonzeros_most n xs ys (omega arith) (λ q l. h (suc q) (omega arith)))

module _ (lim : ℕ → List Dir) (key : ℕ → ℕ) (n : ℕ) (m : List ℕ) (geo : Geometry lim n) where
  so : (q : ℕ) → q ≤ n → So key n m (cut_to lim key m q)
  unfolding cut_to cut box_covers sizes box_at
  so zero l = record { same_length = refl; kept = λ q _ _. refl; counts = λ q _. zero-add _; each = tt; beyond = λ q _. refl; total = zero-add _ }
  so (suc q) l = go (eqb (get_or s.mask q 0) 0) refl (so q (omega arith))
    where
      s : Cuts
      s = cut_to lim key m q

      b : Box
      b = box_at lim key s.mask q

      go : (t : Bool) → eqb (get_or s.mask q 0) 0 ≡ t → So key n m s → So key n m (cond t s (record { mask = clear_box b.dirs q s.mask; boxes = s.boxes ++ b ∷ [] }))
      go true e o = o
      go false e o = cut_so key n m s o (cut_out lim key n s.mask q geo l (eqb-false (get_or s.mask q 0) 0 e))

  behind : (q r : ℕ) → r < q → q ≤ n → get_or (cut_to lim key m q).mask r 0 ≡ 0
  unfolding cut_to cut box_at
  behind zero r lr l = absurd (not-suc-le-zero lr)
  behind (suc q) r lr l = go (eqb (get_or s.mask q 0) 0) refl (λ lt. behind q r lt (omega arith))
    where
      s : Cuts
      s = cut_to lim key m q

      b : Box
      b = box_at lim key s.mask q

      go : (t : Bool) → eqb (get_or s.mask q 0) 0 ≡ t → (r < q → get_or s.mask r 0 ≡ 0)
          → get_or (cond t s (record { mask = clear_box b.dirs q s.mask; boxes = s.boxes ++ b ∷ [] })).mask r 0 ≡ 0
      go true e ih = ⊎_elim (λ x. rw x (eqb-true (get_or s.mask q 0) 0 e)) ih (eq-or-lt_of_le (le_of_suc-le-suc lr))
      go false e ih =
          let c = cut_out lim key n s.mask q geo l (eqb-false (get_or s.mask q 0) 0 e) in
          ⊎_elim (λ x. rw x (c.gone q c.start_in)) (λ lt. clear_zero b.dirs q r s.mask (ih lt)) (eq-or-lt_of_le (le_of_suc-le-suc lr))

  pub parted : Parted key n m (cut_to lim key m n)
  unfolding nz
  parted =
      let o = so n (le_refl _) in
      let z : (q : ℕ) → q < n → nz (get_or (cut_to lim key m n).mask q 0) ≡ 0 = λ q l. ap nz (behind n q l (le_refl _)) in
      record {
        each = o.each;
        owner = λ q l h. owner_of key n m (cut_to lim key m n).boxes q o.each (omega (arith, o.counts q l, z q l, nz_one (get_or m q 0) h));
        sum = o.total;
        room = omega (arith, o.total, nonzeros_most n m (cut_to lim key m n).mask o.same_length o.beyond);
        few = each-few key n m (cut_to lim key m n).boxes o.each;
        cleared = λ q l. behind n q l (le_refl _);
        beyond = o.beyond;
        same_length = o.same_length;
      }

-- ---- sizes

onto_snoc : (done xs : List Dir) (d : Dir) → onto done (xs ++ d ∷ []) ≡ d ∷ onto done xs
unfolding onto
onto_snoc done [] d = refl
onto_snoc done (x ∷ xs) d = onto_snoc (x ∷ done) xs d

some_snoc : (xs : List Dir) (d : Dir) → Some xs → 0 < d.count → Some (xs ++ d ∷ [])
some_snoc [] d s l = (l, tt)
some_snoc (x ∷ xs) d s l = (s.0, some_snoc xs d s.1 l)

-- a box moved by c
moved : (ds : List Dir) (p c r : ℕ) → Member (p + c) ds r → (r' : ℕ) × (r ≡ r' + c) × Member p ds r'
moved [] p c r e = (p, e, refl)
moved (d ∷ ds) p c r m =
    let a : p + c + m.0 * d.stride ≡ p + m.0 * d.stride + c = omega arith in
    let b = moved ds (p + m.0 * d.stride) c r (rw a at m.2) in
    (b.0, b.1, (m.0, m.1, b.2))

-- one size more, around sizes whose geometry is known
module _ (lim : ℕ → List Dir) (n k : ℕ) (g : Geometry lim n) (small : (q : ℕ) → q < n → bound (onto [] (lim q)) ≤ n) where
  further : ℕ → List Dir
  further q = lim (q % n) ++ record { stride = n; count = k - q / n } ∷ []

  some-place : (q : ℕ) → q < k * n → 0 < n
  some-place q l = go n refl
    where
      go : (i : ℕ) → n ≡ i → 0 < n
      go zero e = let z : k * n ≡ 0 = rw e (mul-zero k) in absurd (omega arith)
      go (suc i) e = omega arith

  around : Geometry further (k * n)
  unfolding further bound
  around =
      record {
        some = λ q l. let pos = some-place q l in some_snoc (lim (q % n)) _ (g.some (q % n) (mod-lt q pos)) (let h = (div-lt_iff_lt-mul pos).1 l in omega arith);
        within = λ q r l m.
            let pos = some-place q l in
            let e = onto_snoc [] (lim (q % n)) (record { stride = n; count = k - q / n }) in
            let b = rw e at m in
            let i = b.0 in
            let a : q + i * n ≡ q % n + (q / n + i) * n = omega (arith, div-add-mod' q n, add-mul (q / n) i n) in
            let c = moved (onto [] (lim (q % n))) (q % n) ((q / n + i) * n) r (rw a at b.2) in
            omega (arith, c.1, g.within (q % n) c.0 (mod-lt q pos) c.2, row_fits n k (q / n + i) (omega (arith, b.1)));
        radix = λ q l.
            let pos = some-place q l in
            rw (onto_snoc [] (lim (q % n)) (record { stride = n; count = k - q / n })) (small (q % n) (mod-lt q pos), g.radix (q % n) (mod-lt q pos));
      }

  around_small : (q : ℕ) → bound (onto [] (further q)) ≤ k * n
  unfolding further bound
  around_small q = rw (onto_snoc [] (lim (q % n)) (record { stride = n; count = k - q / n })) (mul-le-mul_right n (omega arith))

sized : (ks : List ℕ) → Geometry (limits ks) (total ks) × ((q : ℕ) → q < total ks → bound (onto [] (limits ks q)) ≤ total ks)
unfolding limits total onto bound further
sized [] = (record { some = λ q l. tt; within = λ q r l e. omega arith; radix = λ q l. tt }, λ q l. le_refl _)
sized (k ∷ ks) =
    let r = sized ks in
    (around (limits ks) (total ks) k r.0 r.1, λ q l. around_small (limits ks) (total ks) k r.0 r.1 q)

-- THE THEOREM, for any number of directions and any key: `merged (h ∷ w ∷ [])` for a slice
pub merged : (ks : List ℕ) (key : ℕ → ℕ) (m : List ℕ) → Parted key (total ks) m (cut_to (limits ks) key m (total ks))
merged ks key m = parted (limits ks) key (total ks) m (sized ks).0
