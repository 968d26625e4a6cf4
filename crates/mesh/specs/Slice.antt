-- Panels claimed one at a time from the mask of a slice, in the order of document 01, 'Panels'.
use Rattle.std.specs.Prelude.{ℕ, zero, suc, ◌+◌, ◌-◌, ◌*◌, ◌/◌, ◌%◌, ◌<◌, ◌^◌, min, cond, ◌&&◌, List, [], ◌∷◌, leb, ltb, pos, length, Option, Some, None}
use Rattle.stand.specs.Cells.{cell_of, moved}
use Rattle.stand.specs.Shape.{point_of}
use Rattle.stand.specs.Sides.{side_number}
use Rattle.stand.specs.Storage.{extent_of}
use Rattle.stand.specs.declared.Cell.{Cell}
use Rattle.stand.specs.declared.volume.Extent.{Extent}
use Rattle.stand.specs.declared.volume.shape.Point.{Point}
use Rattle.mesh.specs.Frame.{along_frame}
use Rattle.mesh.specs.Panels.{face_of}
use Rattle.mesh.specs.Part.{facing}
use Rattle.mesh.specs.Scan.{clear_of, rect_at, run_len}
use Rattle.mesh.specs.declared.claim.Rect.{Rect}
use Rattle.mesh.specs.declared.Quad.{Quad}
use Rattle.mesh.specs.declared.scan.Frame.{Frame}
use Rattle.mesh.specs.declared.slice.Claimed.{Claimed}
use Rattle.mesh.specs.declared.slice.Slice.{Slice}

-- a cell moved by p, saturating at the i32 ends
unfoldable pub shifted : Cell → Point → Cell
shifted c p = moved c (pos p.x) (pos p.y) (pos p.z)

-- extents, each held to what i32 holds
unfoldable pub held_extent : Point → Extent
held_extent p = extent_of (point_of (min p.x 2147483647) (min p.y 2147483647) (min p.z 2147483647))

-- the panel that a rectangle of a slice stands for
unfoldable pub quad_in : Slice → Rect → Quad
quad_in s r =
    record {
      cell = shifted s.cell (facing (side_number s.face) 0 r.u r.v);
      face = s.face;
      voxel = record { 0 = r.value };
      extent = held_extent (facing (side_number s.face) 1 r.run r.rows);
    }

-- the first place from `from` on, below n, that is not 0; n, or `from` where that is no less, if there is none
unfoldable pub first_seen : List ℕ → ℕ → ℕ → ℕ
first_seen m from n = from + run_len m from (n - from) 0

-- the rectangle claimed from place q of h rows of w slots
unfoldable pub rect_from : ℕ → ℕ → List ℕ → ℕ → Rect
rect_from w h m q = rect_at w h m (q % w) (q / w)

-- ---- the call: a panel with the next cursor, or none; and the mask after it

pub record Outcome : Type 0 where
  pub answer : Option Claimed
  pub mask : List ℕ

abbrev pub outcome_of : Option Claimed → List ℕ → Outcome
outcome_of a m = record { answer = a; mask = m }

-- place q is claimed
unfoldable pub claim_from : Slice → List ℕ → ℕ → Outcome
claim_from s m q =
    outcome_of
    (Some (record { quad = quad_in s (rect_from s.width s.height m q); next = q + 1 }))
    (clear_of s.width m (rect_from s.width s.height m q))

-- none where the mask has fewer slots than the slice, or only 0 from the cursor on
unfoldable pub claim_call : Slice → List ℕ → ℕ → Outcome
claim_call s m from =
    cond (leb (s.height * s.width) (length m) && ltb (first_seen m from (s.height * s.width)) (s.height * s.width))
    (claim_from s m (first_seen m from (s.height * s.width)))
    (outcome_of None m)

-- ---- claims one after the other, each from the cursor that the last one gave

pub record Claims : Type 0 where
  pub mask : List ℕ
  pub quads : List Quad

-- what an answer and the claims from its cursor on make
abbrev pub onward : Option Claimed → List ℕ → (ℕ → Claims) → Claims
onward None m on = record { mask = m; quads = [] }
onward (Some t) m on = record { mask = (on t.next).mask; quads = t.quad ∷ (on t.next).quads }

-- until none is left, at most n
unfoldable pub claims_to : ℕ → Slice → List ℕ → ℕ → Claims
claims_to zero s m from = record { mask = m; quads = [] }
claims_to (suc n) s m from = onward (claim_call s m from).answer (claim_call s m from).mask (claims_to n s (claim_call s m from).mask)

-- ---- the slice that lies as a frame says

unfoldable pub slice_from : Frame → Slice
slice_from f =
    record {
      cell = cell_of (along_frame f 0 0 0) (along_frame f 0 0 1) (along_frame f 0 0 2);
      face = face_of f.side;
      width = f.width;
      height = f.height;
    }

-- ---- for the code

pub record PanelPre (r : Rect) : Type 0 where
  pub first : r.u < 2 ^ 63
  pub second : r.v < 2 ^ 63
  pub wide : r.run < 2 ^ 63
  pub high : r.rows < 2 ^ 63
