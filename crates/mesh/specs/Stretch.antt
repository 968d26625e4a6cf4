-- A stretch of a row: slots from `from` on, below `to`, of the row that starts at place `row`; and the list of what is seen from each of them on.
use Rattle.std.specs.Prelude.{◌≡◌, List, ℕ, ◌+◌, ◌-◌, ◌≤◌, ◌<◌, get_or}
use Rattle.mesh.specs.Claims.{Blank}

-- at most sixteen slots, in a mask of `len`
pub record StretchIn (len row from to : ℕ) : Type 0 where
  pub low : from ≤ to
  pub most : to ≤ from + 16
  pub room : row + to ≤ len

-- for each slot i from u on, below `to`, entry i − from is a number from i to `to`, below which all slots from i on are 0
pub record SeenList (m : List ℕ) (row from u to : ℕ) (seen : List ℕ) : Type 0 where
  pub blank : (i : ℕ) → u ≤ i → i < to → Blank m (row + i) (row + to) (row + get_or seen (i - from) 0)

-- what a list has for slot u; from the stretch's end on u itself
pub record SeenFrom (seen : List ℕ) (from to u r : ℕ) : Type 0 where
  pub listed : u < to → r ≡ get_or seen (u - from) 0
  pub past : to ≤ u → r ≡ u
