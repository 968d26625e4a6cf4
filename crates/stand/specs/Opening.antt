-- Opening a stand: document 01, 'The stand' and refusals 1, 2 and 4.
use Rattle.std.specs.Prelude.{ℕ, zero, suc, max, Bool, not, ◌&&◌, List, [], ◌∷◌, ◌++◌, ℤ, nat_lt}
use Rattle.arith.specs.Level.{count_of}
use Rattle.stand.specs.Refusal.{Answer, Rule, ◌⇒◌, answer, first, gives, refused}
use Rattle.stand.specs.Shape.{Shape, last_fits, max_chunks, point_of, sections}
use Rattle.stand.specs.Storage.{Lengths, Storage, fresh_storage, lengths_of, storage_fits, volume_of}
use Rattle.stand.specs.declared.Cell.{Cell}
use Rattle.stand.specs.declared.volume.Extent.{Extent}
use Rattle.stand.specs.declared.volume.Volume.{Volume}
use Rattle.stand.specs.declared.volume.shape.Point.{Point}

-- a size below 1 becomes 1
unfoldable pub size_on : ℤ → ℕ
size_on s = max 1 (count_of s)

unfoldable pub sizes_of : Extent → Point
sizes_of s = point_of (size_on s.x) (size_on s.y) (size_on s.z)

unfoldable pub opened_shape : Cell → Extent → Shape
opened_shape o s = record { origin = o; size = sizes_of s }

-- 1: more than 65,536 sections, counted exactly
unfoldable pub too_many : Shape → Bool
too_many g = nat_lt max_chunks (sections g)

-- what 2 asks: a last cell that i32 holds, on each axis
unfoldable pub last_inside : Cell → Point → Bool
last_inside o n = last_fits o.x n.x && (last_fits o.y n.y && last_fits o.z n.z)

abbrev pub shape_rules : Shape → List Rule
shape_rules g = (too_many g ⇒ 1) ∷ (not (last_inside g.origin g.size) ⇒ 2) ∷ []

-- refusals of opening a stand of this shape on storage of these lengths
abbrev pub open_rules : Shape → Lengths → List Rule
open_rules g l = shape_rules g ++ (not (storage_fits (sections g) l) ⇒ 4) ∷ []

unfoldable pub open_refusal : Shape → Lengths → ℕ
open_refusal g l = first (open_rules g l)

-- the header alone, before storage is looked at
unfoldable pub header_call : Cell → Extent → Answer Volume
header_call o s = answer (first (shape_rules (opened_shape o s))) (volume_of (opened_shape o s) 0 0)

-- what opening comes to: the header, and the storage; a refusal leaves the storage as it was
pub record Opening : Type 0 where
  pub answer : Answer Volume
  pub storage : Storage

abbrev pub opening_of : Answer Volume → Storage → Opening
opening_of a s = record { answer = a; storage = s }

unfoldable pub opened : ℕ → Storage → Shape → Opening
opened zero s g = opening_of (gives (volume_of g 0 0)) (fresh_storage (sections g))
opened (suc n) s g = opening_of (refused (suc n)) s

unfoldable pub open_call : Storage → Cell → Extent → Opening
open_call s o size = opened (open_refusal (opened_shape o size) (lengths_of s)) s (opened_shape o size)
