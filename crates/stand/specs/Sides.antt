-- The six sides by number: document 01, 'Panels'.
use Rattle.std.specs.Prelude.{ℕ, zero, suc, ◌/◌, ◌%◌, cond, ℤ, pos, negsuc, ◌==◌, Option, Some, None}
use Rattle.stand.specs.declared.Axes.{Axes}
use Rattle.stand.specs.declared.Face.{Face}
use Rattle.stand.specs.declared.Face.TheVariants.{East, West, Top, Bottom, North, South}
use Rattle.stand.specs.declared.Step.{Step}

-- East, West, Top, Bottom, North, South, in that order
abbrev pub side_number : Face → ℕ
side_number East = 0
side_number West = 1
side_number Top = 2
side_number Bottom = 3
side_number North = 4
side_number South = 5

abbrev pub face_at : ℕ → Option Face
face_at zero = Some East
face_at (suc zero) = Some West
face_at (suc (suc zero)) = Some Top
face_at (suc (suc (suc zero))) = Some Bottom
face_at (suc (suc (suc (suc zero)))) = Some North
face_at (suc (suc (suc (suc (suc zero))))) = Some South
face_at (suc (suc (suc (suc (suc (suc n)))))) = None

-- two sides to an axis: x, y, z
unfoldable pub normal_at : ℕ → ℕ
normal_at s = s / 2

-- the other two axes, the lower first
unfoldable pub first_at : ℕ → ℕ
first_at s = cond (normal_at s == 0) 1 0

unfoldable pub second_at : ℕ → ℕ
second_at s = cond (normal_at s == 2) 1 2

unfoldable pub axes_at : ℕ → Axes
axes_at s = record { normal = normal_at s; first = first_at s; second = second_at s }

-- even sides step up, odd ones down
unfoldable pub way_at : ℕ → ℤ
way_at s = cond (s % 2 == 0) (pos 1) (negsuc 0)

unfoldable pub step_on : ℕ → ℕ → ℤ
step_on a s = cond (a == normal_at s) (way_at s) (pos 0)

unfoldable pub step_at : ℕ → Step
step_at s = record { x = step_on 0 s; y = step_on 1 s; z = step_on 2 s }
