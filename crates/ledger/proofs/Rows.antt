-- Sums of equal rows.
use mathlib.Core.Path.{◌≡◌, ap}
use Prim.Native.Nat.{ℕ, ◌<◌}
use Rattle.mesh.proofs.Slices.{sum_same}
use Rattle.sheet.specs.Rows.{sums}
use Rattle.sheet.specs.declared.Row.{Row}

pub sums_same : (n : ℕ) (f h : ℕ → Row) → ((i : ℕ) → i < n → f i ≡ h i) → sums f n ≡ sums h n
unfolding sums
sums_same n f h e =
    let panels = sum_same (λ i. (f i).panels) (λ i. (h i).panels) n (λ i k. ap (λ (r : Row). r.panels) (e i k)) in
    let faces = sum_same (λ i. (f i).faces) (λ i. (h i).faces) n (λ i k. ap (λ (r : Row). r.faces) (e i k)) in
    let cents = sum_same (λ i. (f i).cents) (λ i. (h i).cents) n (λ i k. ap (λ (r : Row). r.cents) (e i k)) in
    λ j. record { panels = panels j; faces = faces j; cents = cents j }
