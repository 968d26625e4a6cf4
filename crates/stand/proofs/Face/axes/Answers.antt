use Rattle.std.proofs.Common.{◌≡◌, ℕ, List, [], ◌∷◌, slice_index_or, refl, ap, ◌∙◌}
use Rattle.stand.specs.Sides.{axes_at, first_at, normal_at, second_at}
use Rattle.stand.specs.declared.Axes.{Axes}
use Rattle.stand.proofs.Sides.{six}
use Rattle.stand.proofs.Face.axes.Goals as goal

abbrev axes_of : ℕ → ℕ → ℕ → Axes
axes_of n f s = record { normal = n; first = f; second = s }

abbrev table : List Axes
table = axes_of 0 1 2 ∷ axes_of 0 1 2 ∷ axes_of 1 0 2 ∷ axes_of 1 0 2 ∷ axes_of 2 0 1 ∷ axes_of 2 0 1 ∷ []

pub returns : goal.returns
unfolding axes_at first_at second_at normal_at
returns c = six (λ s. slice_index_or table s (axes_of 0 0 0) ≡ axes_at s) refl refl refl refl refl refl c.number.result c.number.ensures.1 ∙ ap axes_at c.number.ensures.0
