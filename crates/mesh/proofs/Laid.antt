-- Laws of fills: masks of bits, fills joined below and beside, one slot or row more, and what callers read off a mask filled whole.
use Rattle.std.specs.Option.{IsSomeAnd, MatchOption}
use Rattle.std.specs.Prelude.{Option, Some, None}
use mathlib.Core.Path.{◌≡◌, refl, sym, ap, ◌∙◌}
use mathlib.Core.Bool.{Bool, true, false}
use mathlib.Core.List.{List}
use mathlib.Core.Logic.{◌⊎◌, inl, inr, ⊎_elim}
use Prim.Native.Nat.{ℕ, zero, suc, ◌+◌, ◌*◌, ◌-◌, ◌/◌, ◌%◌, ◌<◌, ◌≤◌}
use native.Mathlib.Nat.{suc-mul, mul-le-mul_right, zero-mul, add-mul, mod-lt, div-add-mod', div-lt_iff_lt-mul, eq-or-lt_of_le, mul-zero}
use native.Mathlib.Omega.{arith}
use borrow.Author.Tests.{ltb-true, ltb-false}
use lib.Dec.{ltb}
use lib.Bits.{bit_or, and_le_l, and_le_r, or_add_and}
use lib.ListN.{get_or, length, set, length-set}
use lib.Seq.{get_or-set_same, get_or-set_other}
use Rattle.mesh.specs.Plane.{Filled, Laid, Quiet, plane_shown, row_shown}
use Rattle.mesh.specs.declared.plane.Grid.{Grid}
use Rattle.mesh.specs.declared.plane.Line.{Line}

-- ---- bits

pub or_none : (a b : ℕ) → bit_or a b ≡ 0 → (a ≡ 0) × (b ≡ 0)
or_none a b e = omega (arith, or_add_and a b, and_le_l a b, and_le_r a b)

-- ---- a fill over equal numbers, and of one row, for which no pitch counts

module _ {w h : ℕ} {f g : ℕ → ℕ → ℕ} (e : (u v : ℕ) → u < w → v < h → f u v ≡ g u v) where
  pub laid_as : {m m' : List ℕ} {to pitch : ℕ} → Laid m m' to pitch w h f → Laid m m' to pitch w h g
  laid_as l = record { same = l.same; laid = λ u v a b. l.laid u v a b ∙ e u v a b; kept = l.kept }

  pub quiet_as : {r : ℕ} → Quiet r w h f → Quiet r w h g
  quiet_as l z u v a b = sym (e u v a b) ∙ l z u v a b

  pub filled_as : {m m' : List ℕ} {r to pitch : ℕ} → Filled m m' r to pitch w h f → Filled m m' r to pitch w h g
  filled_as l = record { mask = laid_as l.mask; quiet = quiet_as l.quiet }

pub laid_one : {m m' : List ℕ} {to p q w : ℕ} {f : ℕ → ℕ → ℕ} → Laid m m' to p w 1 f → Laid m m' to q w 1 f
laid_one {m} {m'} {to} {p} {q} l = record {
  same = l.same;
  laid = λ u v a b. ap (λ (i : ℕ). get_or m' i 0) (shift u v b) ∙ l.laid u v a b;
  kept = λ i o. l.kept i (λ u v a b e. o u v a b (e ∙ sym (shift u v b)));
}
  where
    shift : (u v : ℕ) → v < 1 → to + v * q + u ≡ to + v * p + u
    shift u v b = let z : v ≡ 0 = omega arith in rw (z, zero-mul q, zero-mul p)

-- ---- two fills, one below or beside the other

pub row_below : (p v n : ℕ) → v < n → v * p + p ≤ n * p
row_below p v n l = omega (arith, suc-mul v p, mul-le-mul_right p l)

pub lt_or_le : (v n : ℕ) → (v < n) ⊎ (n ≤ v)
lt_or_le v n = go (ltb v n) refl
  where
    go : (b : Bool) → ltb v n ≡ b → (v < n) ⊎ (n ≤ v)
    go true e = inl (ltb-true v n e)
    go false e = inr (ltb-false v n e)

-- an index below a sum is below its first part, or what is left of it below the second
part : {n k v : ℕ} → v < n + k → (v < n) ⊎ ((n + (v - n) ≡ v) × (v - n < k))
part {n} {k} {v} l = ⊎_elim (λ y. inl y) (λ y. inr (omega arith, omega arith)) (lt_or_le v n)

module _ {to pitch w n k : ℕ} {f : ℕ → ℕ → ℕ} where
  pub laid-below : {m m' m'' : List ℕ} → w ≤ pitch → Laid m m' to pitch w n f → Laid m' m'' (to + n * pitch) pitch w k (λ u v. f u (n + v)) → Laid m m'' to pitch w (n + k) f
  laid-below {m'' = m''} s l r =
      record {
        same = r.same ∙ l.same;
        laid = λ u v a b.
            ⊎_elim
            (λ y. r.kept (to + v * pitch + u) (λ u' v' a' b' p. omega (arith, row_below pitch v n y)) ∙ l.laid u v a y)
            (λ y.
            let p : to + v * pitch + u ≡ to + n * pitch + (v - n) * pitch + u = omega (arith, add-mul n (v - n) pitch, ap (λ (i : ℕ). i * pitch) y.0) in
            ap (λ (i : ℕ). get_or m'' i 0) p ∙ r.laid u (v - n) a y.1 ∙ ap (f u) y.0)
            (part b);
        kept = λ q o.
            r.kept q (λ u v a b p. o u (n + v) a (omega arith) (omega (arith, add-mul n v pitch))) ∙ l.kept q (λ u v a b p. o u v a (omega arith) p);
      }

  pub filled-below : {m m' m'' : List ℕ} {r s : ℕ} → w ≤ pitch → Filled m m' r to pitch w n f → Filled m' m'' s (to + n * pitch) pitch w k (λ u v. f u (n + v))
      → Filled m m'' (bit_or r s) to pitch w (n + k) f
  filled-below {r = r} {s = s} d l x =
      record {
        mask = laid-below d l.mask x.mask;
        quiet = λ z u v a b.
            ⊎_elim (λ y. l.quiet (or_none r s z).0 u v a y) (λ y. ap (f u) (sym y.0) ∙ x.quiet (or_none r s z).1 u (v - n) a y.1) (part b);
      }

pub apart : (to pitch n k u v u' v' : ℕ) → n + k ≤ pitch → u < n → u' < k → to + v * pitch + u ≡ to + n + v' * pitch + u' → ⊥
apart to pitch n k u v u' v' s a b p =
    ⊎_elim
    (λ y. omega (arith, row_below pitch v v' y))
    (λ y. ⊎_elim (λ z. let e = ap (λ (i : ℕ). i * pitch) z in omega arith) (λ z. omega (arith, row_below pitch v' v z)) (eq-or-lt_of_le y))
    (lt_or_le v v')

module _ {h n k : ℕ} {f : ℕ → ℕ → ℕ} where
  pub laid_beside : {m m' m'' : List ℕ} {to pitch : ℕ} → n + k ≤ pitch → Laid m m' to pitch n h f → Laid m' m'' (to + n) pitch k h (λ u v. f (n + u) v) → Laid m m'' to pitch (n + k) h f
  laid_beside {m'' = m''} {to = to} {pitch = pitch} s l r =
      record {
        same = r.same ∙ l.same;
        laid = λ u v a b.
            ⊎_elim
            (λ y. r.kept (to + v * pitch + u) (λ u' v' a' b' p. apart to pitch n k u v u' v' s y a' p) ∙ l.laid u v y b)
            (λ y.
            let p : to + v * pitch + u ≡ to + n + v * pitch + (u - n) = omega (arith, y.0) in
            ap (λ (i : ℕ). get_or m'' i 0) p ∙ r.laid (u - n) v y.1 b ∙ ap (λ (i : ℕ). f i v) y.0)
            (part a);
        kept = λ q o.
            r.kept q (λ u v a b p. o (n + u) v (omega arith) b (omega arith)) ∙ l.kept q (λ u v a b p. o u v (omega arith) b p);
      }

  pub quiet-beside : {r s : ℕ} → Quiet r n h f → Quiet s k h (λ u v. f (n + u) v) → Quiet (bit_or r s) (n + k) h f
  quiet-beside {r} {s} l x z u v a b =
      ⊎_elim (λ y. l (or_none r s z).0 u v y b) (λ y. ap (λ (i : ℕ). f i v) (sym y.0) ∙ x (or_none r s z).1 (u - n) v y.1 b) (part a)

  pub filled_beside : {m m' m'' : List ℕ} {r s to pitch : ℕ} → n + k ≤ pitch → Filled m m' r to pitch n h f → Filled m' m'' s (to + n) pitch k h (λ u v. f (n + u) v)
      → Filled m m'' (bit_or r s) to pitch (n + k) h f
  filled_beside d l x = record { mask = laid_beside d l.mask x.mask; quiet = quiet-beside l.quiet x.quiet }

-- ---- a fill of nothing, of one slot more, of one row more

pub laid_none : {m : List ℕ} {to pitch w h : ℕ} {f : ℕ → ℕ → ℕ} → ((u v : ℕ) → u < w → v < h → ⊥) → Laid m m to pitch w h f
laid_none e = record { same = refl; laid = λ u v a b. absurd (e u v a b); kept = λ q _. refl }

pub filled_none : {m : List ℕ} {r to pitch w h : ℕ} {f : ℕ → ℕ → ℕ} → ((u v : ℕ) → u < w → v < h → ⊥) → Filled m m r to pitch w h f
filled_none e = record { mask = laid_none e; quiet = λ _ u v a b. absurd (e u v a b) }

slot : (m : List ℕ) (x to p : ℕ) → to < length m → Laid m (set m to x) to p 1 1 (λ _ _. x)
slot m x to p k =
    record {
      same = length-set m to x;
      laid = λ u v a b. ap (λ (i : ℕ). get_or (set m to x) i 0) (at u v a b) ∙ get_or-set_same m to x 0 k;
      kept = λ q o. get_or-set_other m to q x 0 (λ e. o 0 0 (omega arith) (omega arith) (e ∙ sym (at 0 0 (omega arith) (omega arith))));
    }
  where
    at : (u v : ℕ) → u < 1 → v < 1 → to + v * p + u ≡ to
    at u v a b = let y : u ≡ 0 = omega arith in let z : v ≡ 0 = omega arith in rw (y, z, zero-mul p) (omega arith)

same-slot : (x n : ℕ) (f : ℕ → ℕ → ℕ) → x ≡ f n 0 → (u v : ℕ) → u < 1 → v < 1 → x ≡ f (n + u) v
same-slot x n f e u v a b = let y : n ≡ n + u = omega arith in let z : 0 ≡ v = omega arith in e ∙ ap (λ (i : ℕ). f i 0) y ∙ ap (f (n + u)) z

module _ {n : ℕ} {f : ℕ → ℕ → ℕ} (x : ℕ) (e : x ≡ f n 0) where
  pub laid-slot : {m m' : List ℕ} {to i : ℕ} → i ≡ to + n → Laid m m' to 0 n 1 f → i < length m → Laid m (set m' i x) to 0 (n + 1) 1 f
  laid-slot {m} {m'} {to} {i} at l k =
      rw at (laid_one (laid_beside {pitch = n + 1} (omega arith) (laid_one l) (laid_as (same-slot x n f e) (slot m' x (to + n) (n + 1) (omega (arith, l.same))))))

  pub filled-slot : {m m' : List ℕ} {r to : ℕ} → Filled m m' r to 0 n 1 f → to + n < length m → Filled m (set m' (to + n) x) (bit_or r x) to 0 (n + 1) 1 f
  filled-slot l k =
      record {
        mask = laid-slot refl l.mask k;
        quiet = quiet-beside l.quiet (λ z u v a b. sym (same-slot x n f e u v a b) ∙ z);
      }

pub filled_row : {m m' m'' : List ℕ} {r s to pitch w n : ℕ} {f : ℕ → ℕ → ℕ} → w ≤ pitch → Filled m m' r to pitch w n f → Filled m' m'' s (to + n * pitch) 0 w 1 (λ u _. f u n)
    → Filled m m'' (bit_or r s) to pitch w (n + 1) f
filled_row {n = n} {f = f} d l x =
    filled-below d l (filled_as (λ u v a b. let z : n ≡ n + v = omega arith in ap (f u) z) (record { mask = laid_one x.mask; quiet = x.quiet }))

-- ---- what the rows of a plane ask

-- a row of two planes, k and o the lines that it begins at
pub row_planes : (g : Grid) (v : ℕ) (here k : Line) (next o : Option Line) → k.cells ≡ here.cells → k.at ≡ here.at + v * g.second
    → MatchOption next (o ≡ None) (λ n. IsSomeAnd o (λ r. (r.cells ≡ n.cells) × (r.at ≡ n.at + v * g.second)))
    → (u x : ℕ) → row_shown k o g.first u x ≡ plane_shown here next g u v
row_planes g v here k None o e a m u x = rw (m, e, a) refl
row_planes g v here k (Some n) None e a m u x = absurd m
row_planes g v here k (Some n) (Some r) e a m u x = rw (m.0, m.1, e, a) refl

-- ---- what callers read off a mask filled whole, its rows side by side

some : (w h q : ℕ) → q < h * w → 0 < w
some zero h q k = absurd (omega (arith, mul-zero h))
some (suc w) h q k = omega arith

pub inner : (w h q : ℕ) → q < h * w → (q % w < w) × (q / w < h)
inner w h q k = let o = some w h q k in (mod-lt q o, (div-lt_iff_lt-mul o).1 k)

module _ {m m' : List ℕ} {w h : ℕ} {f : ℕ → ℕ → ℕ} (l : Laid m m' 0 w w h f) (q : ℕ) where
  pub whole-at : q < h * w → get_or m' q 0 ≡ f (q % w) (q / w)
  whole-at k =
      let p : 0 + q / w * w + q % w ≡ q = omega (arith, div-add-mod' q w) in
      let d = inner w h q k in
      ap (λ (i : ℕ). get_or m' i 0) (sym p) ∙ l.laid (q % w) (q / w) d.0 d.1

  pub whole-beyond : h * w ≤ q → get_or m' q 0 ≡ get_or m q 0
  whole-beyond k = l.kept q (λ u v a b p. omega (arith, row_below w v h b))
