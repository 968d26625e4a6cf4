-- For the code: values, points and panels by the axes of a side.
use Rattle.std.specs.Prelude.{List, ℕ, zero, suc, ◌+◌, ℤ, slice_set}
use Rattle.stand.specs.Shape.{point_of}
use Rattle.stand.specs.declared.Axes.{Axes}
use Rattle.stand.specs.declared.volume.shape.Point.{Point}

-- the one of three values that belongs to axis a
abbrev pub along : {A : Type 0} → ℕ → A → A → A → A
along zero x y z = x
along (suc zero) x y z = y
along (suc (suc a)) x y z = z

-- k along axis n, u and v along the other two in order
abbrev pub across : ℕ → ℕ → ℕ → ℕ → Point
across zero k u v = point_of k u v
across (suc zero) k u v = point_of u k v
across (suc (suc n)) k u v = point_of u v k

-- k along the normal, u along first, v along second, each at its place from p on
abbrev pub put_along : List ℤ → Axes → ℕ → ℤ → ℤ → ℤ → List ℤ
put_along q x p k u v = slice_set (slice_set (slice_set q (p + x.normal) k) (p + x.first) u) (p + x.second) v
