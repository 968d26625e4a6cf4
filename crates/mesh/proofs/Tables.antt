-- What the code reads of a side from the tables of six, and points and panels by its axes.
use mathlib.Core.Path.{◌≡◌, refl, sym, ap, ◌∙◌}
use mathlib.Core.Bool.{Bool, true, false, cond, false≢true}
use Prim.Native.Nat.{ℕ, ◌%◌, ◌<◌}
use native.Mathlib.Omega.{arith}
use borrow.Author.Tests.{eqb-false, eqb-true}
use lib.Dec.{eqb}
use lib.IntN.{ℤ, pos, negsuc}
use lib.Signed.{lt_z}
use mir.Syntax.{w32}
use mir.Val.{of_z, to_z}
use Rattle.stand.specs.Sides.{axes_at, first_at, normal_at, side_number, step_at, step_on, way_at}
use Rattle.stand.specs.declared.Axes.{Axes}
use Rattle.stand.specs.declared.Face.{Face}
use Rattle.stand.proofs.Sides.{axes-apart, side-lt, six}
use Rattle.mesh.specs.Axes.{across, along}
use Rattle.mesh.specs.Part.{facing, turned}
use Rattle.mesh.specs.declared.axes.Side.{Side}

-- ---- a side

-- an i32 as a callee gets it
abbrev pub given : ℤ → ℤ
given z = to_z w32 (of_z w32 z)

-- its step along the normal is its way
pub way_read : (s : ℕ) → s < 6 → along (normal_at s) (given (step_at s).x) (given (step_at s).y) (given (step_at s).z) ≡ way_at s
unfolding normal_at step_at step_on way_at
way_read s l = six (λ s. along (normal_at s) (given (step_at s).x) (given (step_at s).y) (given (step_at s).z) ≡ way_at s) refl refl refl refl refl refl s l

module _ (t : Side) where
  pub normal_read : t.axes.normal ≡ normal_at t.number
  unfolding axes_at
  normal_read = ap (λ (x : Axes). x.normal) t.read

  -- up on even sides, down on odd ones
  pub even_up : t.up ≡ true → t.number % 2 ≡ 0
  unfolding way_at
  even_up h = go (eqb (t.number % 2) 0) refl (sym t.way ∙ h)
    where
      go : (b : Bool) → eqb (t.number % 2) 0 ≡ b → lt_z (pos 0) (cond b (pos 1) (negsuc 0)) ≡ true → t.number % 2 ≡ 0
      go true q h = eqb-true (t.number % 2) 0 q
      go false q h = absurd (false≢true h)

  pub odd_down : t.up ≡ false → t.number % 2 ≡ 1
  unfolding way_at
  odd_down h = go (eqb (t.number % 2) 0) refl (sym t.way ∙ h)
    where
      go : (b : Bool) → eqb (t.number % 2) 0 ≡ b → lt_z (pos 0) (cond b (pos 1) (negsuc 0)) ≡ false → t.number % 2 ≡ 1
      go true q h = absurd (false≢true (sym h))
      go false q h = let n = eqb-false (t.number % 2) 0 q in omega arith

-- ---- points

facing-across : (s : ℕ) → s < 6 → (k u v : ℕ) → across (normal_at s) k u v ≡ facing s k u v
unfolding facing turned normal_at first_at
facing-across s l k u v = six (λ s. across (normal_at s) k u v ≡ facing s k u v) refl refl refl refl refl refl s l

-- by a normal that was read
pub facing_read : (t : Side) (k u v : ℕ) → across t.axes.normal k u v ≡ facing t.number k u v
facing_read t k u v = ap (λ (n : ℕ). across n k u v) (normal_read t) ∙ facing-across t.number t.known k u v

pub facing_by : (f : Face) {x : Axes} → x ≡ axes_at (side_number f) → (k u v : ℕ) → across x.normal k u v ≡ facing (side_number f) k u v
unfolding axes_at
facing_by f e k u v = ap (λ (x : Axes). across x.normal k u v) e ∙ facing-across (side_number f) (side-lt f) k u v

-- ---- axes that were read are below 3

pub record Lows (x : Axes) : Type 0 where
  pub normal : x.normal < 3
  pub first : x.first < 3
  pub second : x.second < 3

pub lows : {x : Axes} {s : ℕ} → s < 6 → x ≡ axes_at s → Lows x
unfolding axes_at
lows {s = s} l e = let a = axes-apart s l in rw e (record { normal = a.normal; first = omega (arith, a.order, a.last); second = a.last })
