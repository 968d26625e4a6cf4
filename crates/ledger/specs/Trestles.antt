-- P1 to P12 of the definitions that the contracts cite: document 01, 'On the trestles'.
use Rattle.std.specs.Prelude.{ℕ, ◌≡◌, Bool, true, false, List, [], ◌∷◌, map, pos, replicate}
use Rattle.stand.specs.Cells.{cell_of}
use Rattle.stand.specs.Edit.{look, set_call}
use Rattle.stand.specs.Feed.{Next, changed_since, changed_step, walk}
use Rattle.stand.specs.Fill.{fill_call}
use Rattle.stand.specs.Opening.{open_call, opened_shape}
use Rattle.stand.specs.Read.{digest_call}
use Rattle.stand.specs.Refusal.{Answer, gives, refused}
use Rattle.stand.specs.Shape.{point_of}
use Rattle.stand.specs.Storage.{Outcome, State, Storage, fresh_state, lengths_of, shape, storage_fits, volume_of}
use Rattle.stand.specs.declared.Cell.{Cell}
use Rattle.stand.specs.declared.volume.Extent.{Extent}
use Rattle.stand.specs.declared.volume.shape.Point.{Point}
use Rattle.stand.specs.declared.volume.Volume.{Volume}
use Rattle.mesh.specs.Faces.{Meshed, chunk_faces_call}
use Rattle.mesh.specs.Panels.{side_panels}
use Rattle.mesh.specs.Part.{depth_of, section_part}
use Rattle.mesh.specs.declared.Quad.{Quad}

abbrev pub cell : ℕ → ℕ → ℕ → Cell
cell x y z = cell_of (pos x) (pos y) (pos z)

abbrev pub extent : ℕ → ℕ → ℕ → Extent
extent x y z = record { x = pos x; y = pos y; z = pos z }

-- a stand just opened from (x, 0, 0) on
abbrev pub stand_at : ℕ → Extent → State
stand_at x size = fresh_state (opened_shape (cell x 0 0) size)

-- what opening from (x, 0, 0) on answers, lent this storage
abbrev pub opening_at : ℕ → Extent → Storage → Answer Volume
opening_at x size st = (open_call st (cell x 0 0) size).answer

-- the header that an opening from (x, 0, 0) on with this size gives
abbrev pub header_at : ℕ → Point → Volume
header_at x size = volume_of (record { origin = cell x 0 0; size = size }) 0 0

-- 17 cells in two sections, filled
abbrev pub seventeen : State
seventeen = (fill_call (stand_at 0 (extent 17 1 1)) (cell 0 0 0) (cell 16 0 0) 3).state

-- the step of a walk over its changes
abbrev pub changed_from : ℕ → Answer Next
changed_from mark = changed_step seventeen.volume seventeen.log seventeen.last mark

abbrev pub since_mark : ℕ → Answer ℕ
since_mark mark = changed_since seventeen.volume seventeen.log seventeen.last mark

-- one cell set, and set back
abbrev pub set_back : State
set_back = (set_call (set_call (stand_at 0 (extent 17 1 1)) (cell 16 0 0) 3).state (cell 16 0 0) 0).state

abbrev pub filled_beside : Outcome ℕ
filled_beside = fill_call (stand_at 0 (extent 2 1 1)) (cell 5 5 5) (cell 9 9 9) 1

-- a stand of one cell, occupied, meshed with a mask of one slot and room for six panels
abbrev pub one_cell : ℕ → State
one_cell x = (set_call (stand_at x (extent 1 1 1)) (cell x 0 0) 1).state

abbrev pub mesh_one : ℕ → Bool → Meshed
mesh_one x beyond = (chunk_faces_call (one_cell x).volume (one_cell x).cells 0 beyond (0 ∷ []) (replicate 48 (pos 0))).answer

-- three blocks of one finish in an L
abbrev pub three_blocks : State
three_blocks =
    (set_call (set_call (set_call (stand_at 0 (extent 2 1 2)) (cell 0 0 0) 1).state (cell 1 0 0) 1).state (cell 0 0 1) 1).state

abbrev pub top_of_three : List Quad
top_of_three =
    side_panels true (shape three_blocks) (look (shape three_blocks) three_blocks.cells) (section_part (shape three_blocks) 0) 2
    (depth_of (section_part (shape three_blocks) 0) 2)

pub record Trestles : Type 0 where
  -- size 0 opens as 1
  pub p1 : (st : Storage) → storage_fits 1 (lengths_of st) ≡ true → opening_at 0 (extent 0 0 0) st ≡ gives (header_at 0 (point_of 1 1 1))
  -- 1,048,576 by 1 by 1 opens, 1,048,577 is 1
  pub p2 : (st : Storage) → storage_fits 65536 (lengths_of st) ≡ true → opening_at 0 (extent 1048576 1 1) st ≡ gives (header_at 0 (point_of 1048576 1 1))
  pub p2_more : (st : Storage) → opening_at 0 (extent 1048577 1 1) st ≡ refused 1
  -- at the last x, size 1 opens, 2 is 2
  pub p3 : (st : Storage) → storage_fits 1 (lengths_of st) ≡ true → opening_at 2147483647 (extent 1 1 1) st ≡ gives (header_at 2147483647 (point_of 1 1 1))
  pub p3_more : (st : Storage) → opening_at 2147483647 (extent 2 1 1) st ≡ refused 2
  -- mark 15 gives sections 0 and 1
  pub p4 : since_mark 15 ≡ gives 15
  pub p4-walk : walk 2 seventeen.log seventeen.last 15 2 ≡ 0 ∷ 1 ∷ []
  pub p4-first : changed_from 15 ≡ gives (Next.chunk 0 16)
  -- 16 gives 1
  pub p5 : changed_from 16 ≡ gives (Next.chunk 1 17)
  -- 17 gives none
  pub p6 : changed_from 17 ≡ gives Next.end
  -- 18 is 8, 14 is 9
  pub p7 : since_mark 18 ≡ refused 8
  pub p8 : since_mark 14 ≡ refused 9
  -- set and set back: hash and digest as fresh, version 2, generation 2
  pub p9_hashes : set_back.hashes ≡ (stand_at 0 (extent 17 1 1)).hashes
  pub p9_digest : digest_call set_back.volume set_back.hashes ≡ digest_call (stand_at 0 (extent 17 1 1)).volume (stand_at 0 (extent 17 1 1)).hashes
  pub p9_version : set_back.versions ≡ 0 ∷ 2 ∷ []
  pub p9_generation : set_back.volume.generation ≡ 2
  -- a box beside the stand, as document 02, 2.1 has it: none changed, and the whole state as it was
  pub p10 : filled_beside.answer ≡ gives 0
  pub p10-state : filled_beside.state ≡ stand_at 0 (extent 2 1 1)
  -- one cell: 6 panels, under `Solid` none, at the last x five
  pub p11 : mesh_one 0 true ≡ Meshed.panels 6
  pub p11-solid : mesh_one 0 false ≡ Meshed.panels 0
  pub p11-last : mesh_one 2147483647 true ≡ Meshed.panels 5
  -- the top of three blocks: extents 2, 1, 1, then 1, 1, 1
  pub p12 : map (λ (q : Quad). q.extent) top_of_three ≡ extent 2 1 1 ∷ extent 1 1 1 ∷ []
