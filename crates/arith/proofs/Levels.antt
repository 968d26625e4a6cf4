-- A signed number from its level.
use Rattle.std.proofs.Common.{◌≡◌, ℕ, suc, ◌+◌, ◌-◌, ◌<◌, ◌≤◌, min, Bool, true, false, cond, ltb, ℤ, pos, negsuc, ◌+ℤ◌, sym, refl, ap, ◌∙◌, arith, w32, SFits, ltb-false, ltb-true, le-ltb, lt-ltb}
use lib.IntN.{sub_ℕ}
use Rattle.arith.specs.Level.{level_of, number_of}
use Rattle.arith.proofs.Signed.{sub_ge, sub-lt}

module _ (l : ℕ) where
  pub number_past : 4294967295 < l → pos 2147483647 ≡ number_of l
  unfolding number_of
  number_past h = rw (le-ltb l 2147483648 (omega arith)) (ap pos (omega arith))

  module _ (h : l ≤ 4294967295) where
    pub number_fits : SFits w32 (number_of l)
    unfolding number_of
    number_fits = by (ltb l 2147483648)
      where
        by : (t : Bool) → SFits w32 (cond t (negsuc (2147483647 - l)) (pos (min (l - 2147483648) 2147483647)))
        by true = record { sfits = omega arith }
        by false = record { sfits = omega arith }

-- the number of a sum of levels
pub number-sum : (o : ℤ) (d : ℕ) → SFits w32 o → level_of o + d < 4294967296 → number_of (level_of o + d) ≡ o +ℤ pos d
unfolding number_of
number-sum (pos a) d f h = rw (le-ltb (2147483648 + a + d) 2147483648 (omega arith)) (ap pos (omega arith))
number-sum (negsuc a) d f h = by (ltb d (suc a)) refl
  where
    by : (t : Bool) → ltb d (suc a) ≡ t → cond (ltb (2147483648 - suc a + d) 2147483648) (negsuc (2147483647 - (2147483648 - suc a + d))) (pos (min (2147483648 - suc a + d - 2147483648) 2147483647)) ≡ sub_ℕ d (suc a)
    by true e =
        let l : d < suc a = ltb-true d (suc a) e in
        rw (lt-ltb (2147483648 - suc a + d) 2147483648 (omega (arith, f.sfits))) (sym (sub-lt d (suc a) l ∙ ap negsuc (omega (arith, f.sfits))))
    by false e =
        let l : suc a ≤ d = ltb-false d (suc a) e in
        rw (le-ltb (2147483648 - suc a + d) 2147483648 (omega (arith, f.sfits))) (sym (sub_ge d (suc a) l ∙ ap pos (omega (arith, f.sfits))))
