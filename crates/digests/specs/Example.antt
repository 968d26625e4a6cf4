-- Worked stands: document 02, 2.3. Their numbers, and the last two stands, come from programs of their own, not from these definitions.
use Rattle.std.specs.Prelude.{ℕ, ◌≡◌, List, [], ◌∷◌}
use Rattle.arith.specs.Bytes.{Bytes}
use Rattle.stand.specs.Edit.{look}
use Rattle.stand.specs.Refusal.{gives}
use Rattle.stand.specs.Shape.{Shape, point_of}
use Rattle.stand.specs.Storage.{State, shape}
use Rattle.stand.specs.declared.Cell.{Cell}
use Rattle.form.specs.Example.{one_block}
use Rattle.form.specs.Keeping.{Same}
use Rattle.ledger.specs.Calls.{Op}
use Rattle.ledger.specs.Trestles.{cell}
use Rattle.digests.specs.Digests.{OneOff, Reached, digest_answer, fresh_after, hash_answer}

-- n cells along x, from 0 on
abbrev pub cells_along : ℕ → Shape
cells_along n = record { origin = cell 0 0 0; size = point_of n 1 1 }

-- such a stand just opened, after these calls
abbrev pub along : ℕ → List Op → State
along n os = fresh_after (cells_along n) (record { sheet = 0 }) [] os

abbrev pub at : ℕ → Cell
at x = cell x 0 0

abbrev pub set_at : ℕ → ℕ → Op
set_at x v = Op.set (at x) v

-- ---- one cell

-- empty, and with finish 1
pub record Single : Type 0 where
  pub none : digest_answer (along 1 []) ≡ gives 0x0bbca45291161997
  pub block : digest_answer (along 1 (set_at 0 1 ∷ [])) ≡ gives 0x06908e4f5fef3724
  pub off : OneOff (along 1 []) (along 1 (set_at 0 1 ∷ [])) (at 0)

-- the block loaded from its 41 bytes
abbrev pub load : Bytes one_block → Op
load w = Op.load_stand (record { bytes = one_block; typed = w })

-- it has the digest of the block set; with finish 2 in its place another
pub record LoadedBlock (w : Bytes one_block) : Type 0 where
  pub block : digest_answer (along 1 (load w ∷ [])) ≡ gives 0x06908e4f5fef3724
  pub other : digest_answer (along 1 (load w ∷ set_at 0 2 ∷ [])) ≡ gives 0xeac9a18b2bca59d9
  pub off : OneOff (along 1 (load w ∷ [])) (along 1 (load w ∷ set_at 0 2 ∷ [])) (at 0)

-- ---- 17 cells, in two sections: cell 15 is the last of the first section, cell 16 the first of the second

abbrev pub block15 : List Op
block15 = set_at 15 1 ∷ []

-- both blocks; the call between is refused, since the cell is outside
abbrev pub blocks : List Op
blocks = set_at 15 1 ∷ set_at 17 1 ∷ set_at 16 1 ∷ []

-- block 16, by a box across the edge
abbrev pub block16 : List Op
block16 = Op.fill (at 16) (at 99) 1 ∷ []

-- both again, in the other order, and cell 15 by way of another finish
abbrev pub blocks_again : List Op
blocks_again = Op.fill (at 16) (at 99) 1 ∷ set_at 15 2 ∷ set_at 15 1 ∷ []

pub record Seventeen : Type 0 where
  pub hashes_15 : (hash_answer (along 17 block15) 0 ≡ gives 0x890e09845cfa952f) × (hash_answer (along 17 block15) 1 ≡ gives 0)
  pub hashes_both : (hash_answer (along 17 blocks) 0 ≡ gives 0x890e09845cfa952f) × (hash_answer (along 17 blocks) 1 ≡ gives 0x910a2dec89025cc1)
  pub digest_15 : digest_answer (along 17 block15) ≡ gives 0x2eba627874ad6aa1
  pub digest_16 : digest_answer (along 17 block16) ≡ gives 0x70db2fba27e12879
  pub digest_both : digest_answer (along 17 blocks) ≡ gives 0x998667823bd449ae
  pub digest_again : digest_answer (along 17 blocks_again) ≡ gives 0x998667823bd449ae
  -- all of them are filled by calls
  pub reached : Reached (along 17 block15) × Reached (along 17 blocks) × Reached (along 17 block16) × Reached (along 17 blocks_again)
  pub off_16 : OneOff (along 17 block15) (along 17 blocks) (at 16)
  pub off_15 : OneOff (along 17 block16) (along 17 blocks_again) (at 15)
  -- the two filled by different calls, the block at 16 in the first alone
  pub off_again : OneOff (along 17 blocks_again) (along 17 block15) (at 16)
  -- and alike, at different generations
  pub same_again : Same (along 17 blocks).volume (along 17 blocks).cells (along 17 blocks_again).volume (along 17 blocks_again).cells

-- ---- two blocks off

-- five cells with two blocks, at 0 and at 4
abbrev pub pair : ℕ → ℕ → State
pair v w = along 5 (set_at 0 v ∷ set_at 4 w ∷ [])

abbrev pub finish_at : State → ℕ → ℕ
finish_at s x = look (shape s) s.cells (at x)

-- they need not show: other finishes at both cells, one hash and one digest
pub record Hidden (s t : State) : Type 0 where
  pub solid : (s.volume.solid ≡ 2) × (t.volume.solid ≡ 2)
  pub finishes : (finish_at s 0 ≡ 6833) × (finish_at t 0 ≡ 8849) × (finish_at s 4 ≡ 4422) × (finish_at t 4 ≡ 55627)
  pub hashes : (hash_answer s 0 ≡ gives 0xfc22de598e6fa6a1) × (hash_answer t 0 ≡ gives 0xfc22de598e6fa6a1)
  pub digests : (digest_answer s ≡ gives 0xdb9d22f5f449ff48) × (digest_answer t ≡ gives 0xdb9d22f5f449ff48)

pub record Example : Type 0 where
  pub single : Single
  pub block-typed : Bytes one_block
  pub loaded : (w : Bytes one_block) → LoadedBlock w
  pub seventeen : Seventeen
  pub hidden : Hidden (pair 6833 4422) (pair 8849 55627)
