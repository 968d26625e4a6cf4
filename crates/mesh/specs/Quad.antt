-- Panels as written, and their faces: document 01, 'Panels' and refusal 13.
use Rattle.std.specs.Prelude.{ℕ, suc, ◌+◌, ◌*◌, ◌/◌, Bool, cond, ◌&&◌, not, List, [], ◌∷◌, leb, ltb, ℤ, pos, get_or, length}
use Rattle.std.proofs.lemmas.List.Edits.{sets}
use Rattle.std.specs.Int.Signed.{le_z}
use Rattle.stand.specs.Refusal.{Answer, ◌⇒◌, answer, first}
use Rattle.stand.specs.Shape.{counts_of, product}
use Rattle.stand.specs.Sides.{side_number}
use Rattle.stand.specs.declared.volume.Extent.{Extent}
use Rattle.mesh.specs.declared.Quad.{Quad}

unfoldable pub positive : Extent → Bool
positive e = le_z (pos 1) e.x && (le_z (pos 1) e.y && le_z (pos 1) e.z)

-- 'Calls turned back', 13: all extents positive, and a product that i32 holds
unfoldable pub merged_call : Extent → Answer ℕ
merged_call e = answer (first ((not (positive e && leb (product (counts_of e)) 2147483647) ⇒ 13) ∷ [])) (product (counts_of e))

-- eight numbers: x, y, z, side, finish, extents
unfoldable pub numbers_of : Quad → List ℤ
numbers_of q =
    q.cell.x ∷ q.cell.y ∷ q.cell.z
    ∷ pos (side_number q.face) ∷ pos q.voxel.0
    ∷ q.extent.x ∷ q.extent.y ∷ q.extent.z ∷ []

-- panel number k of a list, if it has room for it
unfoldable pub put_quad : List ℤ → ℕ → Quad → List ℤ
put_quad list k q = cond (ltb k (length list / 8)) (sets list (k * 8) (numbers_of q)) list

unfoldable pub write_from : List ℤ → ℕ → List Quad → List ℤ
write_from list k [] = list
write_from list k (q ∷ qs) = write_from (put_quad list k q) (suc k) qs

-- number m of panel k of a list, both counted from 0
abbrev pub number_at : List ℤ → ℕ → ℕ → ℤ
number_at list k m = get_or list (k * 8 + m) (pos 0)
