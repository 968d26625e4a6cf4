-- Filling a box: document 01, 'The stand' and refusals 3, 4 and 6; document 02, 2.1.
use Rattle.std.specs.Prelude.{◌≡◌, ℕ, zero, suc, ◌+◌, ◌-◌, ◌*◌, ◌≤◌, min, max, Bool, true, cond, not, ◌&&◌, ◌||◌, List, [], ◌∷◌, ◌++◌, ℤ, pos, ◌+ℤ◌, ◌-ℤ◌, ◌==◌, int_le, int_lt, nat_lt, unsigned_abs, Option, Some, None}
use Rattle.stand.specs.Cells.{cell_of}
use Rattle.stand.specs.Edit.{Edited, edited, edited_of, fitting, last_generation, set_def}
use Rattle.stand.specs.Refusal.{◌⇒◌, first}
use Rattle.stand.specs.Shape.{Shape, cell_from, point_of, product, well_formed}
use Rattle.stand.specs.Storage.{Outcome, State, shape}
use Rattle.stand.specs.declared.Cell.{Cell}
use Rattle.stand.specs.declared.volume.shape.Span.{Span}
use Rattle.stand.specs.declared.volume.shape.Region.{Region}
use Rattle.stand.specs.declared.volume.shape.Point.{Point}

-- ---- the box between two corners

-- corners ordered
unfoldable pub low_z : ℤ → ℤ → ℤ
low_z a b = cond (int_le a b) a b

unfoldable pub high_z : ℤ → ℤ → ℤ
high_z a b = cond (int_le a b) b a

unfoldable pub low_cell : Cell → Cell → Cell
low_cell a b = record { x = low_z a.x b.x; y = low_z a.y b.y; z = low_z a.z b.z }

unfoldable pub high_cell : Cell → Cell → Cell
high_cell a b = record { x = high_z a.x b.x; y = high_z a.y b.y; z = high_z a.z b.z }

-- in the box: between the corners on each axis, both included
unfoldable pub between_on : ℤ → ℤ → ℤ → Bool
between_on a b c = int_le (low_z a b) c && int_le c (high_z a b)

unfoldable pub between : Cell → Cell → Cell → Bool
between a b c = between_on a.x b.x c.x && (between_on a.y b.y c.y && between_on a.z b.z c.z)

-- ---- the common part of box and stand: document 02, 2.1

-- none, document 02's 'wholly beside it': on one axis or more the box lies below the stand's first cell or past its last
unfoldable pub misses_on : ℤ → ℕ → ℤ → ℤ → Bool
misses_on o n a b = int_lt (high_z a b) o || int_le (o +ℤ pos n) (low_z a b)

unfoldable pub misses : Shape → Cell → Cell → Bool
misses g a b =
    misses_on g.origin.x g.size.x a.x b.x
    || (misses_on g.origin.y g.size.y a.y b.y || misses_on g.origin.z g.size.z a.z b.z)

-- how many of n cells from o on lie below coordinate c
unfoldable pub below_on : ℤ → ℕ → ℤ → ℕ
below_on o n c = cond (int_le (pos 0) (c -ℤ o)) (min (unsigned_abs (c -ℤ o)) n) 0

unfoldable pub below_spot : Shape → Cell → Point
below_spot g c =
    point_of
    (below_on g.origin.x g.size.x c.x)
    (below_on g.origin.y g.size.y c.y)
    (below_on g.origin.z g.size.z c.z)

-- the coordinates just past a cell's
unfoldable pub past : Cell → Cell
past c = cell_of (c.x +ℤ pos 1) (c.y +ℤ pos 1) (c.z +ℤ pos 1)

-- a region by where it starts, as distances from the origin, and how many cells it has along each axis, which may be none: from p up to q, q not in it
unfoldable pub spanning : Point → Point → Region
spanning p q = record { low = p; count = point_of (q.x - p.x) (q.y - p.y) (q.z - p.z) }

-- the common part as a region: the cells that lie both in the box and in the stand
unfoldable pub box_of : Shape → Cell → Cell → Region
box_of g a b = spanning (below_spot g (low_cell a b)) (below_spot g (past (high_cell a b)))

unfoldable pub cells_in : Region → ℕ
cells_in k = product k.count

-- ---- its cells, z outermost, x innermost

-- n cells along x from distances p on
unfoldable pub row_cells : Shape → Point → ℕ → List Cell
row_cells g p zero = []
row_cells g p (suc n) = row_cells g p n ++ (cell_from g (point_of (p.x + n) p.y p.z) ∷ [])

-- m rows of n cells, along y
unfoldable pub plane_cells : Shape → Point → ℕ → ℕ → List Cell
plane_cells g p n zero = []
plane_cells g p n (suc m) = plane_cells g p n m ++ row_cells g (point_of p.x (p.y + m) p.z) n

-- l planes of m rows of n cells, along z
unfoldable pub solid_cells : Shape → Point → ℕ → ℕ → ℕ → List Cell
solid_cells g p n m zero = []
solid_cells g p n m (suc l) = solid_cells g p n m l ++ plane_cells g (point_of p.x p.y (p.z + l)) n m

unfoldable pub box_cells : Shape → Region → List Cell
box_cells g k = solid_cells g k.low k.count.x k.count.y k.count.z

-- ---- fill: a set of each cell, in order

-- the edits so far, and one more
unfoldable pub and_then : ℕ → Edited → Edited
and_then n e = edited_of (n + e.count) e.state

unfoldable pub set_each : Edited → List Cell → ℕ → Edited
set_each e [] v = e
set_each e (c ∷ cs) v = set_each (and_then e.count (set_def e.state c v)) cs v

unfoldable pub fill_def : State → Cell → Cell → ℕ → Edited
fill_def s a b v = set_each (edited_of 0 s) (box_cells (shape s) (box_of (shape s) a b)) v

-- what refuses a fill; the cells of the common part count, changed or not
unfoldable pub fill_refusal : Bool → Bool → Shape → ℕ → Cell → Cell → ℕ
fill_refusal formed fits g generation a b =
    first
    ((not formed ⇒ 3) ∷ (not fits ⇒ 4)
    ∷ (nat_lt (last_generation - generation) (cells_in (box_of g a b)) ⇒ 6) ∷ [])

-- the answer is the cells changed
unfoldable pub fill_call : State → Cell → Cell → ℕ → Outcome ℕ
fill_call s a b v =
    edited (fill_refusal (well_formed s.volume) (fitting s) (shape s) s.volume.generation a b) s (fill_def s a b v)

-- ---- for the code

-- the cells below a coordinate, by levels
unfoldable pub below_at : ℕ → ℕ → ℕ → ℕ
below_at o n c = min (c - o) n

-- one axis of the common part by levels: the cells from the lower coordinate to the higher, both in it, of n cells from o on
pub record Spanned (o n a b low count : ℕ) : Type 0 where
  pub low-is : low ≡ below_at o n (min a b)
  pub count-is : count ≡ below_at o n (max a b + 1) - low

-- the same where it has a cell
abbrev pub SpannedSome : ℕ → ℕ → ℕ → ℕ → Option Span → Type 0
SpannedSome o n a b (Some s) = Spanned o n a b s.low s.count × (s.count ≡ 0 → ⊥)
SpannedSome o n a b None = (low : ℕ) × Spanned o n a b low 0

-- the common part, where there is one
unfoldable pub common_of : Shape → Cell → Cell → Option Region
common_of g a b = cond (cells_in (box_of g a b) == 0) None (Some (box_of g a b))

-- a region that can be filled
pub record Fillable (s : State) (p : Point) (n m l : ℕ) : Type 0 where
  pub formed : well_formed s.volume ≡ true
  pub fits : fitting s ≡ true
  pub x : p.x + n ≤ (shape s).size.x
  pub y : p.y + m ≤ (shape s).size.y
  pub z : p.z + l ≤ (shape s).size.z
  pub left : s.volume.generation + n * m * l ≤ last_generation

-- a region inside a shape
pub record Inside (g : Shape) (k : Region) : Type 0 where
  pub x : k.low.x + k.count.x ≤ g.size.x
  pub y : k.low.y + k.count.y ≤ g.size.y
  pub z : k.low.z + k.count.z ≤ g.size.z
