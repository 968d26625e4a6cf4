-- For the code: panels added to a list, with the mask as before.
use Rattle.std.specs.Prelude.{◌≡◌, List, ℕ, ◌+◌, ℤ, length}
use Rattle.mesh.specs.Quad.{write_from}
use Rattle.mesh.specs.declared.Quad.{Quad}

-- the panels qs were written from number n on, and r is the next number
pub record Listed (qs : List Quad) (m m' : List ℕ) (out out' : List ℤ) (n r : ℕ) : Type 0 where
  pub mask : m' ≡ m
  pub list : out' ≡ write_from out n qs
  pub total : r ≡ n + length qs
