-- A slice of a section, and a panel claimed from one: C's struct, and the mask after the call.
use Rattle.std.specs.Prelude.{ℕ, List, Option, Some, None}
use Rattle.stand.specs.Refusal.{Answer, gives, refused}
use Rattle.stand.specs.Sides.{face_at, side_number}
use Rattle.stand.specs.declared.Face.{Face}
use Rattle.stand.specs.declared.volume.Volume.{Volume}
use Rattle.mesh.specs.Lay.{slice_call}
use Rattle.mesh.specs.Lay as L
use Rattle.mesh.specs.Slice.{claim_call}
use Rattle.mesh.specs.Slice as C
use Rattle.mesh.specs.declared.slice.Claimed.{Claimed}
use Rattle.mesh.specs.declared.slice.Slice.{Slice}
use Rattle.exports.specs.Reply.{no_cell, no_extent}
use Rattle.exports.specs.Rule.{bad_argument, named, rule_at}
use Rattle.exports.specs.declared.slices.PanelGiven.{PanelGiven}
use Rattle.exports.specs.declared.slices.SideSlice.{SideSlice}
use Rattle.exports.specs.declared.slices.Sliced.{Sliced}

-- ---- a slice

pub record SliceReply : Type 0 where
  pub reply : Sliced
  pub mask : List ℕ

abbrev pub slice_reply_of : Sliced → List ℕ → SliceReply
slice_reply_of s m = record { reply = s; mask = m }

abbrev pub side_slice : Slice → SideSlice
side_slice s = record { cell = s.cell; side = side_number s.face; width = s.width; height = s.height }

abbrev pub no_slice : ℕ → Sliced
no_slice c = record { code = c; slice = record { cell = no_cell; side = 0; width = 0; height = 0 } }

abbrev pub replied_slice : Answer Slice → Sliced
replied_slice (gives s) = record { code = 0; slice = side_slice s }
replied_slice (refused c) = no_slice c

abbrev pub slice_reply : L.Sliced → SliceReply
slice_reply x = slice_reply_of (replied_slice x.answer) x.mask

unfoldable pub chunk_slice_reply : Volume → List ℕ → ℕ → ℕ → ℕ → ℕ → List ℕ → SliceReply
chunk_slice_reply v cells i side k rule m =
    named (face_at side)
    (λ f. named (rule_at rule) (λ b. slice_reply (slice_call v cells i f k b m)) (slice_reply_of (no_slice bad_argument) m))
    (slice_reply_of (no_slice bad_argument) m)

-- ---- a panel claimed from a slice

pub record ClaimReply : Type 0 where
  pub reply : PanelGiven
  pub mask : List ℕ

abbrev pub claim_reply_of : PanelGiven → List ℕ → ClaimReply
claim_reply_of p m = record { reply = p; mask = m }

abbrev pub no_panel : ℕ → PanelGiven
no_panel c = record { code = c; given = 0; cell = no_cell; side = 0; finish = 0; extent = no_extent; next = 0 }

abbrev pub replied_claim : Option Claimed → PanelGiven
replied_claim (Some t) =
    record {
      code = 0;
      given = 1;
      cell = t.quad.cell;
      side = side_number t.quad.face;
      finish = t.quad.voxel.0;
      extent = t.quad.extent;
      next = t.next;
    }
replied_claim None = no_panel 0

abbrev pub claim_reply : C.Outcome → ClaimReply
claim_reply x = claim_reply_of (replied_claim x.answer) x.mask

-- the slice that C's struct stands for, on a side
abbrev pub slice_on : SideSlice → Face → Slice
slice_on s f = record { cell = s.cell; face = f; width = s.width; height = s.height }

unfoldable pub side_claim_reply : SideSlice → List ℕ → ℕ → ClaimReply
side_claim_reply s m from = named (face_at s.side) (λ f. claim_reply (claim_call (slice_on s f) m from)) (claim_reply_of (no_panel bad_argument) m)
