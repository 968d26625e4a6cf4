-- Finishes and cells.
use Rattle.std.specs.Prelude.{ℕ, Bool, ℤ, ◌+ℤ◌, ◌==◌}
use Rattle.arith.specs.Saturate.{saturate}
use Rattle.stand.specs.declared.Cell.{Cell}

-- document 01, head: a finish of 0 is empty
abbrev pub is_empty : ℕ → Bool
is_empty v = v == 0

abbrev pub cell_of : ℤ → ℤ → ℤ → Cell
cell_of x y z = record { x = x; y = y; z = z }

-- document 01, 'Rust forms recut': offset, saturating at the i32 ends
unfoldable pub moved : Cell → ℤ → ℤ → ℤ → Cell
moved c x y z = cell_of (saturate (c.x +ℤ x)) (saturate (c.y +ℤ y)) (saturate (c.z +ℤ z))
