use Rattle.std.proofs.Common.{◌≡◌, List, [], ◌∷◌, slice_index_or, ℤ, pos, negsuc, refl, ap, ◌∙◌}
use Rattle.stand.specs.Sides.{normal_at, step_at, step_on, way_at}
use Rattle.stand.specs.declared.Step.{Step}
use Rattle.stand.proofs.Sides.{six}
use Rattle.stand.proofs.Face.step.Goals as goal

abbrev step_of : ℤ → ℤ → ℤ → Step
step_of x y z = record { x = x; y = y; z = z }

abbrev steps : List Step
steps =
    step_of (pos 1) (pos 0) (pos 0) ∷ step_of (negsuc 0) (pos 0) (pos 0)
    ∷ step_of (pos 0) (pos 1) (pos 0) ∷ step_of (pos 0) (negsuc 0) (pos 0)
    ∷ step_of (pos 0) (pos 0) (pos 1) ∷ step_of (pos 0) (pos 0) (negsuc 0) ∷ []

pub returns : goal.returns
unfolding step_at step_on way_at normal_at
returns c = six (λ s. slice_index_or steps s (step_of (pos 0) (pos 0) (pos 0)) ≡ step_at s) refl refl refl refl refl refl c.number.result c.number.ensures.1 ∙ ap step_at c.number.ensures.0
