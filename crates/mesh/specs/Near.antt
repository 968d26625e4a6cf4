-- Sections that share a face: document 01, 'The book behind the sums'.
use Rattle.std.specs.Prelude.{ℕ, ◌+◌, ◌-◌, Bool, ◌||◌, eqb}
use Rattle.stand.specs.Shape.{chunk_place}
use Rattle.stand.specs.declared.volume.shape.Point.{Point}

-- by how much two numbers differ
abbrev pub gap : ℕ → ℕ → ℕ
gap a b = (a - b) + (b - a)

-- by how much two places differ, on all axes together
unfoldable pub gaps : Point → Point → ℕ
gaps p q = gap p.x q.x + gap p.y q.y + gap p.z q.z

-- of k sections along each axis, sections i and j: their places differ by 1 on one axis alone
unfoldable pub shares_face : Point → ℕ → ℕ → Bool
shares_face k i j = eqb (gaps (chunk_place k i) (chunk_place k j)) 1

-- the same section, or one that shares a face with it
unfoldable pub near : Point → ℕ → ℕ → Bool
near k i j = eqb i j || shares_face k i j
