-- A stand's shape, and the places of its cells and sections: document 01, 'The stand'.
use Rattle.std.specs.Prelude.{ℕ, ◌+◌, ◌-◌, ◌*◌, ◌/◌, ◌%◌, ◌<◌, ◌≤◌, min, Bool, cond, ◌&&◌, ℤ, pos, ◌+ℤ◌, ◌-ℤ◌, FitsSigned, ◌==◌, int_le, int_lt, nat_le, nat_lt, unsigned_abs, Option, Some, None}
use Rattle.std.specs.Int.{w32}
use Rattle.arith.specs.Level.{count_of, level_of}
use Rattle.stand.specs.Cells.{cell_of, moved}
use Rattle.stand.specs.declared.Cell.{Cell}
use Rattle.stand.specs.declared.volume.Extent.{Extent}
use Rattle.stand.specs.declared.volume.Volume.{Volume}
use Rattle.stand.specs.declared.volume.shape.Point.{Point}
use Rattle.stand.specs.declared.volume.shape.Span.{Span}
use Rattle.stand.specs.declared.volume.shape.Reach.{Reach}

-- the limit of sections
abbrev pub max_chunks : ℕ
max_chunks = 65536

abbrev pub point_of : ℕ → ℕ → ℕ → Point
point_of x y z = record { x = x; y = y; z = z }

-- ---- by numbers: sizes, counts, distances

-- sections along an axis of n cells: n / 16 rounded up
unfoldable pub chunks_on : ℕ → ℕ
chunks_on n = (n + 15) / 16

unfoldable pub chunks_in : Point → Point
chunks_in n = point_of (chunks_on n.x) (chunks_on n.y) (chunks_on n.z)

unfoldable pub product : Point → ℕ
product k = k.x * k.y * k.z

-- the index of the section at place p, with k sections along each axis
unfoldable pub section_at : Point → Point → ℕ
section_at k p = (p.z * k.y + p.y) * k.x + p.x

-- the index within a section
unfoldable pub within_at : Point → ℕ
within_at w = (w.z * 16 + w.y) * 16 + w.x

-- the place of the section at distances d, and what is left within it
unfoldable pub over : Point → Point
over d = point_of (d.x / 16) (d.y / 16) (d.z / 16)

unfoldable pub rest : Point → Point
rest d = point_of (d.x % 16) (d.y % 16) (d.z % 16)

-- the storage index at distances d
unfoldable pub slot_at : Point → Point → ℕ
slot_at k d = section_at k (over d) * 4096 + within_at (rest d)

-- and back: the place of section i, and the distances of the storage index i
unfoldable pub chunk_place : Point → ℕ → Point
chunk_place k i = point_of (i % k.x) (i / k.x % k.y) (i / k.x / k.y)

unfoldable pub corner : Point → ℕ → Point
corner k i = point_of ((chunk_place k i).x * 16) ((chunk_place k i).y * 16) ((chunk_place k i).z * 16)

unfoldable pub spot_at : Point → ℕ → Point
spot_at k i =
    point_of
    ((corner k (i / 4096)).x + i % 4096 % 16)
    ((corner k (i / 4096)).y + i % 4096 / 16 % 16)
    ((corner k (i / 4096)).z + i % 4096 / 256)

-- ---- a shape: origin and size

pub record Shape : Type 0 where
  pub origin : Cell
  pub size : Point

unfoldable pub counted : Shape → Point
counted g = chunks_in g.size

unfoldable pub sections : Shape → ℕ
sections g = product (counted g)

-- a last cell that i32 holds: origin plus size - 1
unfoldable pub last_fits : ℤ → ℕ → Bool
last_fits o n = int_le (o +ℤ pos n -ℤ pos 1) (pos 2147483647)

-- one axis of a header that opening gives: a size of at least 1, a last cell that i32 holds, and its sections
unfoldable pub axis_good : ℤ → ℕ → ℕ → Bool
axis_good o n k = nat_le 1 n && (last_fits o n && k == chunks_on n)

unfoldable pub good : Cell → Point → Point → Bool
good o n k =
    axis_good o.x n.x k.x
    && (axis_good o.y n.y k.y && (axis_good o.z n.z k.z && nat_le (product k) max_chunks))

-- a shape that opening gives
unfoldable pub opens : Shape → Bool
opens g = good g.origin g.size (counted g)

-- a cell is inside if its exact distance from the origin is 0 to size - 1 on each axis
unfoldable pub inside_on : ℤ → ℕ → ℤ → Bool
inside_on o n c = int_le (pos 0) (c -ℤ o) && int_lt (c -ℤ o) (pos n)

unfoldable pub inside : Shape → Cell → Bool
inside g c =
    inside_on g.origin.x g.size.x c.x
    && (inside_on g.origin.y g.size.y c.y && inside_on g.origin.z g.size.z c.z)

unfoldable pub distance : Shape → Cell → Point
distance g c = point_of (unsigned_abs (c.x -ℤ g.origin.x)) (unsigned_abs (c.y -ℤ g.origin.y)) (unsigned_abs (c.z -ℤ g.origin.z))

-- where a cell is stored, and its section
unfoldable pub slot : Shape → Cell → ℕ
slot g c = slot_at (counted g) (distance g c)

unfoldable pub chunk_of : Shape → Cell → ℕ
chunk_of g c = section_at (counted g) (over (distance g c))

-- the cell at distances d from the origin
unfoldable pub cell_from : Shape → Point → Cell
cell_from g d = cell_of (g.origin.x +ℤ pos d.x) (g.origin.y +ℤ pos d.y) (g.origin.z +ℤ pos d.z)

-- the cell of a storage index; saturating, for slots beyond the size
unfoldable pub cell_at : Shape → ℕ → Cell
cell_at g i =
    moved g.origin
    (pos (spot_at (counted g) i).x) (pos (spot_at (counted g) i).y) (pos (spot_at (counted g) i).z)

-- the distance from the origin of a coordinate clamped to n cells from o on
unfoldable pub clamp_on : ℤ → ℕ → ℤ → ℕ
clamp_on o n c = cond (int_le (pos 0) (c -ℤ o)) (min (unsigned_abs (c -ℤ o)) (n - 1)) 0

unfoldable pub clamp_spot : Shape → Cell → Point
clamp_spot g c =
    point_of
    (clamp_on g.origin.x g.size.x c.x)
    (clamp_on g.origin.y g.size.y c.y)
    (clamp_on g.origin.z g.size.z c.z)

-- the last cell: origin plus size - 1
unfoldable pub last_cell : Shape → Cell
last_cell g = cell_from g (point_of (g.size.x - 1) (g.size.y - 1) (g.size.z - 1))

-- a cell clamped to the stand
unfoldable pub clamp_cell : Shape → Cell → Cell
clamp_cell g c = cell_from g (clamp_spot g c)

-- ---- headers

-- document 01's sizes and sections of a header, as numbers
abbrev pub counts_of : Extent → Point
counts_of e = point_of (count_of e.x) (count_of e.y) (count_of e.z)

unfoldable pub shape_of : Volume → Shape
shape_of v = record { origin = v.origin; size = counts_of v.size }

-- what 3 asks of a header; generation and solid are free
unfoldable pub well_formed : Volume → Bool
well_formed v = good v.origin (counts_of v.size) (counts_of v.chunks)

-- ---- the same for the code: by levels, and as Options

abbrev pub levels_of : Cell → Point
levels_of c = point_of (level_of c.x) (level_of c.y) (level_of c.z)

-- one axis of a stand, and all three
abbrev pub span_of : ℤ → ℤ → Span
span_of o n = record { low = level_of o; count = count_of n }

abbrev pub reach_of : Volume → Reach
reach_of v = record { x = span_of v.origin.x v.size.x; y = span_of v.origin.y v.size.y; z = span_of v.origin.z v.size.z }

-- coordinates that i32 holds
pub record Ranged (c : Cell) : Type 0 where
  pub x : FitsSigned w32 c.x
  pub y : FitsSigned w32 c.y
  pub z : FitsSigned w32 c.z

pub record Below (m : ℕ) (p : Point) : Type 0 where
  pub x : p.x < m
  pub y : p.y < m
  pub z : p.z < m

-- sizes, or counts, that i32 holds
pub record Sized (p : Point) : Type 0 where
  pub low_x : 1 ≤ p.x
  pub low-y : 1 ≤ p.y
  pub low-z : 1 ≤ p.z
  pub x : p.x < 2147483648
  pub y : p.y < 2147483648
  pub z : p.z < 2147483648

-- a clamped coordinate by levels
unfoldable pub clamp_at : ℕ → ℕ → ℕ → ℕ
clamp_at o n c = min (c - o) (n - 1)

unfoldable pub axis_at : ℕ → ℕ → ℕ → Bool
axis_at o n k = nat_le 1 n && (nat_le (o + n) 4294967296 && k == chunks_on n)

-- the distance of a coordinate by levels
unfoldable pub along_at : ℕ → ℕ → ℕ → Option ℕ
along_at o n c = cond (nat_le o c && nat_lt (c - o) n) (Some (c - o)) None

unfoldable pub spot_of : Shape → Cell → Option Point
spot_of g c = cond (inside g c) (Some (distance g c)) None

unfoldable pub place_of : Shape → Cell → Option ℕ
place_of g c = cond (inside g c) (Some (slot g c)) None

-- distances that lie in a store of at most the limit
pub record Stored (k d : Point) : Type 0 where
  pub x : d.x / 16 < k.x
  pub y : d.y / 16 < k.y
  pub z : d.z / 16 < k.z
  pub few : product k ≤ max_chunks
