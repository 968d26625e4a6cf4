-- Tests over ℤ as tests of levels: last cells, distances, clamping, cells below a coordinate.
use Rattle.std.proofs.Common.{◌≡◌, ℕ, zero, suc, ◌+◌, ◌-◌, ◌<◌, ◌≤◌, min, Bool, true, false, cond, ltb, leb, ℤ, pos, negsuc, ◌+ℤ◌, ◌-ℤ◌, neg_ℤ, nat_abs, sym, refl, ap, ◌∙◌, arith, w32, SFits, ltb-false, ltb-true, le-ltb, le-leb, leb-false, leb-true}
use borrow.Author.Tests.{lt-leb}
use lib.Dec.{leb-zero}
use lib.IntN.{sub_ℕ, suc_ℤ, +ℤ_assoc, +ℤ_comm, +ℤ_one}
use lib.Signed.{lt_z, le_z}
use Rattle.arith.proofs.Signed.{sub_ge, sub-lt}
use Rattle.arith.specs.Level.{level_of}
use Rattle.arith.specs.Saturate.{saturate}
use Rattle.stand.specs.Fill.{below_at, below_on}
use Rattle.stand.specs.Shape.{axis_at, axis_good, clamp_at, clamp_on, inside_on, last_fits}

-- ---- two tests that hold of the same numbers

leb_same' : (t : Bool) (a b c d : ℕ) → leb a b ≡ t → (a ≤ b → c ≤ d) → (c ≤ d → a ≤ b) → t ≡ leb c d
leb_same' true a b c d e f g = sym (le-leb c d (f (leb-true a b e)))
leb_same' false a b c d e f g = sym (lt-leb c d (not_le (λ h. lt_not (leb-false a b e) (g h))))
  where
    lt_not : b < a → a ≤ b → ⊥
    lt_not p q = omega arith

    not_le : (c ≤ d → ⊥) → d < c
    not_le p = omega arith

pub leb_same : (a b c d : ℕ) → (a ≤ b → c ≤ d) → (c ≤ d → a ≤ b) → leb a b ≡ leb c d
leb_same a b c d f g = leb_same' (leb a b) a b c d refl f g

-- ---- the last cell

less_one : (x : ℤ) → le_z (x -ℤ pos 1) (pos 2147483647) ≡ le_z x (pos 2147483648)
less_one (pos zero) = refl
less_one (pos (suc m)) =
    ap (λ (z : ℤ). le_z z (pos 2147483647)) (sub_ge (suc m) 1 (omega arith))
    ∙ leb_same (suc m - 1) 2147483647 (suc m) 2147483648 (λ h. omega arith) (λ h. omega arith)
less_one (negsuc m) = refl

last-cut : (t : Bool) (a n : ℕ) → ltb n (suc a) ≡ t → a < 2147483648 → le_z (sub_ℕ n (suc a)) (pos 2147483648) ≡ leb (2147483648 - suc a + n) 4294967296
last-cut true a n e h =
    let l : n < suc a = ltb-true n (suc a) e in
    ap (λ (z : ℤ). le_z z (pos 2147483648)) (sub-lt n (suc a) l) ∙ sym (le-leb (2147483648 - suc a + n) 4294967296 (omega arith))
last-cut false a n e h =
    let l : suc a ≤ n = ltb-false n (suc a) e in
    ap (λ (z : ℤ). le_z z (pos 2147483648)) (sub_ge n (suc a) l)
    ∙ leb_same (n - suc a) 2147483648 (2147483648 - suc a + n) 4294967296 (λ p. omega arith) (λ p. omega arith)

last_sum : (o : ℤ) (n : ℕ) → SFits w32 o → le_z (o +ℤ pos n) (pos 2147483648) ≡ leb (level_of o + n) 4294967296
last_sum (pos a) n f = leb_same (a + n) 2147483648 (2147483648 + a + n) 4294967296 (λ p. omega arith) (λ p. omega arith)
last_sum (negsuc a) n f = last-cut (ltb n (suc a)) a n refl f.sfits

pub last_law : (o : ℤ) (n : ℕ) → SFits w32 o → last_fits o n ≡ leb (level_of o + n) 4294967296
unfolding last_fits
last_law o n f = less_one (o +ℤ pos n) ∙ last_sum o n f

pub axis_law : (o : ℤ) (n k : ℕ) → SFits w32 o → axis_good o n k ≡ axis_at (level_of o) n k
unfolding axis_good axis_at
axis_law o n k f = rw (last_law o n f)

-- ---- a distance

pub diff_ge : (c o : ℤ) → SFits w32 c → SFits w32 o → level_of o ≤ level_of c → c -ℤ o ≡ pos (level_of c - level_of o)
diff_ge (pos a) (pos zero) f g h = ap pos (omega arith)
diff_ge (pos a) (pos (suc b)) f g h = sub_ge a (suc b) (omega arith) ∙ ap pos (omega arith)
diff_ge (pos a) (negsuc b) f g h = ap pos (omega (arith, g.sfits))
diff_ge (negsuc a) (pos b) f g h = absurd (omega arith)
diff_ge (negsuc a) (negsuc b) f g h = sub_ge (suc b) (suc a) (omega (arith, f.sfits, g.sfits)) ∙ ap pos (omega (arith, f.sfits, g.sfits))

pub diff_lt : (c o : ℤ) → SFits w32 c → SFits w32 o → level_of c < level_of o → le_z (pos 0) (c -ℤ o) ≡ false
diff_lt (pos a) (pos zero) f g h = absurd (omega arith)
diff_lt (pos a) (pos (suc b)) f g h = ap (le_z (pos 0)) (sub-lt a (suc b) (omega arith))
diff_lt (pos a) (negsuc b) f g h = absurd (omega arith)
diff_lt (negsuc a) (pos zero) f g h = ap (le_z (pos 0)) (sub-lt 0 (suc a) (omega arith))
diff_lt (negsuc a) (pos (suc b)) f g h = refl
diff_lt (negsuc a) (negsuc b) f g h = ap (le_z (pos 0)) (sub-lt (suc b) (suc a) (omega (arith, f.sfits, g.sfits)))

module _ (o : ℤ) (n : ℕ) (c : ℤ) (fo : SFits w32 o) (fc : SFits w32 c) where
  -- a coordinate below the origin is outside
  pub on-low : level_of c < level_of o → inside_on o n c ≡ false
  unfolding inside_on
  on-low h = rw (diff_lt c o fc fo h)

  module _ (h : level_of o ≤ level_of c) where
    -- one from the origin on is inside where its distance is below the size
    pub on-high : inside_on o n c ≡ ltb (level_of c - level_of o) n
    unfolding inside_on
    on-high = rw (diff_ge c o fc fo h) (rw (leb-zero (level_of c - level_of o)))

    pub on-distance : nat_abs (c -ℤ o) ≡ level_of c - level_of o
    on-distance = rw (diff_ge c o fc fo h)

-- ---- a coordinate clamped, and how many cells lie below one

past-sub : (c o : ℤ) → (c +ℤ pos 1) -ℤ o ≡ (c -ℤ o) +ℤ pos 1
past-sub c o = +ℤ_assoc c (pos 1) (neg_ℤ o) ∙ ap (λ (z : ℤ). c +ℤ z) (+ℤ_comm (pos 1) (neg_ℤ o)) ∙ sym (+ℤ_assoc c (neg_ℤ o) (pos 1))

-- of n cells one more lies below the number just past z than below z, as far as there are so many
below-past : (n : ℕ) (z : ℤ) → cond (le_z (pos 0) (suc_ℤ z)) (min (nat_abs (suc_ℤ z)) n) 0 ≡ cond (le_z (pos 0) z) (min (nat_abs z + 1) n) 0
below-past n (pos m) = rw (leb-zero m, leb-zero (suc m)) (omega arith)
below-past n (negsuc zero) = omega arith
below-past n (negsuc (suc m)) = refl

pub below_next : (o : ℤ) (n : ℕ) (c : ℤ) → below_on o n (c +ℤ pos 1) ≡ cond (le_z (pos 0) (c -ℤ o)) (min (nat_abs (c -ℤ o) + 1) n) 0
unfolding below_on
below_next o n c =
    ap (λ (z : ℤ). cond (le_z (pos 0) z) (min (nat_abs z) n) 0) (past-sub c o ∙ +ℤ_one (c -ℤ o)) ∙ below-past n (c -ℤ o)

module _ (o : ℤ) (n : ℕ) (c : ℤ) (fo : SFits w32 o) (fc : SFits w32 c) where
  -- m of the distance from the origin on, 0 below it
  from-origin : (m : ℕ → ℕ) (e : ℕ) → (level_of c < level_of o → e ≡ 0) → (level_of o ≤ level_of c → m (level_of c - level_of o) ≡ e) → cond (le_z (pos 0) (c -ℤ o)) (m (nat_abs (c -ℤ o))) 0 ≡ e
  from-origin m e low high = by (leb (level_of o) (level_of c)) refl
    where
      by : (t : Bool) → leb (level_of o) (level_of c) ≡ t → cond (le_z (pos 0) (c -ℤ o)) (m (nat_abs (c -ℤ o))) 0 ≡ e
      by true p =
          let h = leb-true (level_of o) (level_of c) p in
          rw (diff_ge c o fc fo h) (rw (leb-zero (level_of c - level_of o)) (high h))
      by false p =
          let h = leb-false (level_of o) (level_of c) p in
          rw (diff_lt c o fc fo h) (sym (low h))

  pub clamp_law : clamp_on o n c ≡ clamp_at (level_of o) n (level_of c)
  unfolding clamp_on clamp_at
  clamp_law = from-origin (λ d. min d (n - 1)) _ (λ h. omega arith) (λ h. refl)

  pub below_law : below_on o n c ≡ below_at (level_of o) n (level_of c)
  unfolding below_on below_at
  below_law = from-origin (λ d. min d n) _ (λ h. omega arith) (λ h. refl)

  pub past_law : below_on o n (c +ℤ pos 1) ≡ below_at (level_of o) n (level_of c + 1)
  unfolding below_at
  past_law = below_next o n c ∙ from-origin (λ d. min (d + 1) n) _ (λ h. omega arith) (λ h. omega arith)

-- ---- sums that stay in i32

from_by : (o : ℤ) (d : ℕ) → SFits w32 o → level_of o + d < 4294967296 → (lt_z (o +ℤ pos d) (negsuc 2147483647) ≡ false) × (lt_z (pos 2147483647) (o +ℤ pos d) ≡ false)
from_by (pos a) d f h = (refl, le-ltb 2147483647 (a + d) (omega arith))
from_by (negsuc a) d f h = cut (ltb d (suc a)) refl
  where
    cut : (t : Bool) → ltb d (suc a) ≡ t → (lt_z (sub_ℕ d (suc a)) (negsuc 2147483647) ≡ false) × (lt_z (pos 2147483647) (sub_ℕ d (suc a)) ≡ false)
    cut true e =
        let l : d < suc a = ltb-true d (suc a) e in
        let p = sub-lt d (suc a) l in
        (ap (λ (z : ℤ). lt_z z (negsuc 2147483647)) p ∙ le-ltb 2147483647 (suc a - suc d) (omega (arith, f.sfits)), ap (λ (z : ℤ). lt_z (pos 2147483647) z) p)
    cut false e =
        let l : suc a ≤ d = ltb-false d (suc a) e in
        let p = sub_ge d (suc a) l in
        (ap (λ (z : ℤ). lt_z z (negsuc 2147483647)) p, ap (λ (z : ℤ). lt_z (pos 2147483647) z) p ∙ le-ltb 2147483647 (d - suc a) (omega (arith, f.sfits)))

pub from_law : (o : ℤ) (d : ℕ) → SFits w32 o → level_of o + d < 4294967296 → saturate (o +ℤ pos d) ≡ o +ℤ pos d
unfolding saturate
from_law o d f h =
    let p = from_by o d f h in
    rw (p.0, p.1)
