-- The part meshed, its slices and their slots: document 01, 'Panels'.
use Rattle.std.specs.Prelude.{◌≡◌, ◌≤◌, ◌<◌, ℕ, zero, suc, ◌+◌, ◌-◌, ◌*◌, ◌/◌, ◌%◌, min, max, Bool, cond, List, [], ◌∷◌, ◌++◌, eqb}
use Rattle.stand.specs.Shape.{Ranged, Shape, cell_from, chunk_place, corner, counted, levels_of, point_of, sections}
use Rattle.stand.specs.Sides.{first_at, normal_at, second_at}
use Rattle.stand.specs.declared.Cell.{Cell}
use Rattle.stand.specs.declared.volume.shape.Point.{Point}
use Rattle.stand.specs.declared.volume.shape.Region.{Region}
use Rattle.mesh.specs.Visible.{shown}

-- ---- numbers along a side's axes

abbrev pub on_axis : ℕ → Point → ℕ
on_axis zero p = p.x
on_axis (suc zero) p = p.y
on_axis (suc (suc a)) p = p.z

-- along axis a: k on the normal of side s, u on its first axis, v on its second
unfoldable pub turned : ℕ → ℕ → ℕ → ℕ → ℕ → ℕ
turned a s k u v = cond (eqb a (normal_at s)) k (cond (eqb a (first_at s)) u v)

unfoldable pub facing : ℕ → ℕ → ℕ → ℕ → Point
facing s k u v = point_of (turned 0 s k u v) (turned 1 s k u v) (turned 2 s k u v)

-- ---- the part meshed: where it starts, and its cells along each axis

unfoldable pub whole_part : Shape → Region
whole_part g = record { low = point_of 0 0 0; count = g.size }

-- the cells along each axis of the section at corner d, cut short by the size
abbrev pub cut_at : Shape → Point → Point
cut_at g d = point_of (min 16 (g.size.x - d.x)) (min 16 (g.size.y - d.y)) (min 16 (g.size.z - d.z))

-- a section
unfoldable pub section_part : Shape → ℕ → Region
section_part g i =
    record {
      low = corner (counted g) i;
      count = cut_at g (corner (counted g) i);
    }

-- a box of sections: n of them along each axis, the lowest at place p
unfoldable pub tiled : Shape → Point → Point → Region
tiled g p n =
    record {
      low = point_of (p.x * 16) (p.y * 16) (p.z * 16);
      count = point_of
          (min (n.x * 16) (g.size.x - p.x * 16))
          (min (n.y * 16) (g.size.y - p.y * 16))
          (min (n.z * 16) (g.size.z - p.z * 16));
    }

unfoldable pub depth_of : Region → ℕ → ℕ
depth_of r s = on_axis (normal_at s) r.count

unfoldable pub width_of : Region → ℕ → ℕ
width_of r s = on_axis (first_at s) r.count

unfoldable pub height_of : Region → ℕ → ℕ
height_of r s = on_axis (second_at s) r.count

-- the largest of the three products of two extents: what 10 of 'Calls turned back' wants
unfoldable pub largest_side : Region → ℕ
largest_side r =
    max (r.count.x * r.count.y) (max (r.count.x * r.count.z) (r.count.y * r.count.z))

-- ---- slices: k along the normal, slot (u, v) along first and second

unfoldable pub added : Point → Point → Point
added p q = point_of (p.x + q.x) (p.y + q.y) (p.z + q.z)

unfoldable pub cell_in : Shape → Region → ℕ → ℕ → ℕ → ℕ → Cell
cell_in g r s k u v = cell_from g (added r.low (facing s k u v))

-- the visible finish at slot q of a slice, rows of the second axis one after the other
unfoldable pub slot_shown : Bool → Shape → (Cell → ℕ) → Region → ℕ → ℕ → ℕ → ℕ
slot_shown beyond g look r s k q = shown beyond g look s (cell_in g r s k (q % width_of r s) (q / width_of r s))

-- f 0 to f (n - 1)
unfoldable pub table : (ℕ → ℕ) → ℕ → List ℕ
table f zero = []
table f (suc n) = table f n ++ (f n ∷ [])

unfoldable pub slice_mask : Bool → Shape → (Cell → ℕ) → Region → ℕ → ℕ → List ℕ
slice_mask beyond g look r s k = table (slot_shown beyond g look r s k) (height_of r s * width_of r s)

-- ---- for the code: what it knows of a section, and of a box of sections

-- section i: l the levels of its lowest cell, n its cells along each axis, p its place, k the sections of the stand
pub record SectionLies (g : Shape) (i : ℕ) (l n p k : Point) : Type 0 where
  pub ranged : Ranged g.origin
  pub chunk : i < sections g
  pub chunks : k ≡ counted g
  pub place : p ≡ chunk_place (counted g) i
  pub low : l ≡ added (levels_of g.origin) (section_part g i).low
  pub count : n ≡ (section_part g i).count

-- the same of a box of a sections along each axis, one at least
pub record PartLies (g : Shape) (l n p a k : Point) : Type 0 where
  pub ranged : Ranged g.origin
  pub chunks : k ≡ counted g
  pub some_x : 1 ≤ a.x
  pub some_y : 1 ≤ a.y
  pub some_z : 1 ≤ a.z
  pub x : p.x + a.x ≤ (counted g).x
  pub y : p.y + a.y ≤ (counted g).y
  pub z : p.z + a.z ≤ (counted g).z
  pub low : l ≡ added (levels_of g.origin) (tiled g p a).low
  pub count : n ≡ (tiled g p a).count
