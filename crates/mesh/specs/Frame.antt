-- Where a slice lies, and its rectangles as panels.
use Rattle.std.specs.Prelude.{◌≡◌, cond, List, map, ℕ, ◌+◌, ◌*◌, ◌≤◌, ◌<◌, ◌^◌, eqb, ℤ, length}
use Rattle.arith.specs.Level.{number_of}
use Rattle.stand.specs.Cells.{cell_of}
use Rattle.stand.specs.Shape.{Shape, levels_of, max_chunks}
use Rattle.stand.specs.Sides.{axes_at, first_at, normal_at, second_at}
use Rattle.stand.specs.Storage.{extent_of}
use Rattle.stand.specs.declared.volume.shape.Region.{Region}
use Rattle.mesh.specs.Panels.{face_of}
use Rattle.mesh.specs.Part.{added, facing, height_of, on_axis, turned, width_of}
use Rattle.mesh.specs.Quad.{write_from}
use Rattle.mesh.specs.Scan.{State, fresh, place, rect_at, scan, slot, step_at}
use Rattle.mesh.specs.declared.claim.Rect.{Rect}
use Rattle.mesh.specs.declared.Quad.{Quad}
use Rattle.mesh.specs.declared.scan.Frame.{Frame}
use Rattle.mesh.specs.declared.scan.Turn.{Turn}

-- the frame of slice k of side s of a part
unfoldable pub frame_of : Shape → Region → ℕ → ℕ → Frame
frame_of g r s k =
    record {
      side = s;
      axes = axes_at s;
      normal = on_axis (normal_at s) (added (levels_of g.origin) r.low) + k;
      first = on_axis (first_at s) (added (levels_of g.origin) r.low);
      second = on_axis (second_at s) (added (levels_of g.origin) r.low);
      width = width_of r s;
      height = height_of r s;
    }

-- the coordinate of slot (u, v) along axis a
unfoldable pub along_frame : Frame → ℕ → ℕ → ℕ → ℤ
along_frame f u v a = number_of (turned a f.side f.normal (f.first + u) (f.second + v))

-- the panel that a rectangle stands for
unfoldable pub quad_from : Frame → Rect → Quad
quad_from f r =
    record {
      cell = cell_of (along_frame f r.u r.v 0) (along_frame f r.u r.v 1) (along_frame f r.u r.v 2);
      face = face_of f.side;
      voxel = record { 0 = r.value };
      extent = extent_of (facing f.side 1 r.run r.rows);
    }

-- ---- for the code

-- a side and its axes, levels of i32, and a width and height that a stand can have
pub record Lies (f : Frame) : Type 0 where
  pub side : f.side < 6
  pub axes : f.axes ≡ axes_at f.side
  pub normal : f.normal < 4294967296
  pub first : f.first + f.width ≤ 4294967296
  pub second : f.second + f.height ≤ 4294967296
  pub width : f.width ≤ 16 * max_chunks
  pub height : f.height ≤ 16 * max_chunks

pub record PutPre (f : Frame) (r : Rect) : Type 0 where
  pub lies : Lies f
  pub wide : r.u + r.run ≤ f.width
  pub high : r.v + r.rows ≤ f.height
  pub finish : r.value < 2 ^ 16

pub record StepPre (len : ℕ) (f : Frame) (u v at count : ℕ) : Type 0 where
  pub lies : Lies f
  pub whole : f.height * f.width ≤ len
  pub first : u < f.width
  pub second : v < f.height
  pub here : at ≡ place f.width u v
  pub few : count < 18446744073709551615

pub record RowPre (len : ℕ) (f : Frame) (v row count : ℕ) : Type 0 where
  pub lies : Lies f
  pub whole : f.height * f.width ≤ len
  pub second : v < f.height
  pub here : row ≡ v * f.width
  pub few : count ≤ 2 ^ 63

pub record ScanPre (len : ℕ) (f : Frame) (count : ℕ) : Type 0 where
  pub lies : Lies f
  pub whole : f.height * f.width ≤ len
  pub few : count ≤ 2 ^ 62

-- mask and list after the rectangles of a state were claimed and written from number `count` on, and the next number
pub record Wrote (f : Frame) (s : State) (m' : List ℕ) (out out' : List ℤ) (count r : ℕ) : Type 0 where
  pub mask : m' ≡ s.mask
  pub list : out' ≡ write_from out count (map (quad_from f) s.rects)
  pub total : r ≡ count + length s.rects

-- the next slot of the row after (u, v): a claimed run is left out
unfoldable pub next_at : ℕ → ℕ → List ℕ → ℕ → ℕ → ℕ
next_at w h m u v = cond (eqb (slot w m u v) 0) (u + 1) (u + (rect_at w h m u v).run)

pub record StepPost (f : Frame) (u v : ℕ) (m m' : List ℕ) (out out' : List ℤ) (count : ℕ) (r : Turn) : Type 0 where
  pub wrote : Wrote f (step_at f.width f.height (fresh m) u v) m' out out' count r.count
  pub next : r.next ≡ next_at f.width f.height m u v
  pub low : u < r.next
  pub high : r.next ≤ f.width

pub record ScanPost (f : Frame) (m m' : List ℕ) (out out' : List ℤ) (count r : ℕ) : Type 0 where
  pub wrote : Wrote f (scan f.width f.height m) m' out out' count r
  pub few : r ≤ count + f.height * f.width
