-- Where a slice of a part with a cell lies.
use mathlib.Core.Bool.{Bool, true, false, cond}
use mathlib.Core.Path.{◌≡◌, refl, sym, ◌∙◌, subst}
use Prim.Native.Nat.{ℕ, ◌+◌, ◌^◌, ◌≤◌, ◌<◌}
use native.Mathlib.Omega.{arith}
use borrow.Author.Tests.{le-ltb, lt-ltb}
use lib.Dec.{eqb}
use Rattle.arith.specs.Level.{number_of}
use Rattle.stand.specs.Cells.{cell_of}
use Rattle.stand.specs.Shape.{Below, Shape, cell_from, levels_of, point_of}
use Rattle.stand.specs.Sides.{first_at, normal_at, second_at, side_number}
use Rattle.stand.specs.declared.Cell.{Cell}
use Rattle.stand.specs.declared.Face.{Face}
use Rattle.stand.specs.declared.volume.shape.Point.{Point}
use Rattle.stand.proofs.Shape.{Within}
use Rattle.stand.proofs.Sides.{side-lt}
use Rattle.mesh.specs.Lay.{slice_of}
use Rattle.mesh.specs.Part.{added, cell_in, depth_of, facing, height_of, on_axis, turned, width_of}
use Rattle.mesh.specs.Scene.{shape_in}
use Rattle.mesh.specs.Tiles.{part_of}
use Rattle.mesh.specs.declared.slice.Slice.{Slice}
use Rattle.mesh.specs.declared.scene.Part.{Part}
use Rattle.mesh.proofs.Frame.{from_level}
use Rattle.mesh.proofs.Made.{levels_on, part-within}
use Rattle.mesh.proofs.Parts.{cell_below}
use Rattle.mesh.proofs.Step.{opened}
use Rattle.mesh.proofs.Tiling.{part_some}

abbrev pub slice_at : Cell → Face → ℕ → ℕ → Slice
slice_at c f w h = record { cell = c; face = f; width = w; height = h }

-- the cell d up from levels l
abbrev pub cell_up : Point → Point → Cell
cell_up l d = cell_of (number_of (l.x + d.x)) (number_of (l.y + d.y)) (number_of (l.z + d.z))

-- no steps
pub facing-none : (s : ℕ) → point_of 0 0 0 ≡ facing s 0 0 0
unfolding facing turned
facing-none s = λ i. point_of (none 0 i) (none 1 i) (none 2 i)
  where
    go : (b c : Bool) → ◌≡◌ {A = ℕ} 0 (cond b 0 (cond c 0 0))
    go true c = refl
    go false true = refl
    go false false = refl

    none : (a : ℕ) → ◌≡◌ {A = ℕ} 0 (cond (eqb a (normal_at s)) 0 (cond (eqb a (first_at s)) 0 0))
    none a = go (eqb a (normal_at s)) (eqb a (first_at s))

module _ (p : Part) where
  abbrev g : Shape
  g = shape_in p.scene

  -- the part's last level on each axis
  last_on : (a : ℕ) → on_axis a (added (levels_of g.origin) (part_of p).low) + on_axis a (part_of p).count ≤ 4294967296
  last_on = levels_on g (opened p.scene) (part_of p) (part-within p) p.lies.ranged

  pub depth_some : (s : ℕ) → 0 < depth_of (part_of p) s
  unfolding depth_of
  depth_some s = part_some p (normal_at s)

  pub low_below : Below (2 ^ 63) p.low
  low_below =
      subst (Below (2 ^ 63)) (sym p.lies.low)
      (record { x = omega (arith, last_on 0); y = omega (arith, last_on 1); z = omega (arith, last_on 2) })

  module _ (s k : ℕ) (side : s < 6) (deep : k < depth_of (part_of p) s) where
    in_part : Within (part_of p).count (facing s k 0 0)
    unfolding width_of height_of
    in_part = cell_below g (part_of p) s k 0 0 (part-within p) side deep (part_some p (first_at s)) (part_some p (second_at s))

    facing_small : Below (2 ^ 63) (facing s k 0 0)
    facing_small =
        record {
          x = omega (arith, in_part.x, last_on 0);
          y = omega (arith, in_part.y, last_on 1);
          z = omega (arith, in_part.z, last_on 2);
        }

    lowest_at : cell_up (added (levels_of g.origin) (part_of p).low) (facing s k 0 0) ≡ cell_in g (part_of p) s k 0 0
    unfolding cell_in cell_from added
    lowest_at =
        let l = (part_of p).low in
        let d = facing s k 0 0 in
        λ i. cell_of
        (from_level g.origin.x l.x d.x p.lies.ranged.x (omega (arith, in_part.x, last_on 0)) i)
        (from_level g.origin.y l.y d.y p.lies.ranged.y (omega (arith, in_part.y, last_on 1)) i)
        (from_level g.origin.z l.z d.z p.lies.ranged.z (omega (arith, in_part.z, last_on 2)) i)

  -- ---- of side f

  module _ (f : Face) {k : ℕ} where
    module _ {d : Point} (deep : k < depth_of (part_of p) (side_number f)) (e : d ≡ facing (side_number f) k 0 0) where
      pub steps_below : Below (2 ^ 63) d
      steps_below = subst (Below (2 ^ 63)) (sym e) (facing_small (side_number f) k (side-lt f) deep)

      -- the slice's lowest cell
      pub lowest_cell : cell_up p.low d ≡ cell_in g (part_of p) (side_number f) k 0 0
      lowest_cell = (λ i. cell_up (p.lies.low i) (e i)) ∙ lowest_at (side_number f) k (side-lt f) deep

    module _ {c : Cell} where
      pub slice-past : depth_of (part_of p) (side_number f) ≤ k → c ≡ cell_in g (part_of p) (side_number f) 0 0 0 → slice_at c f 0 0 ≡ slice_of g (part_of p) f k
      unfolding slice_of
      slice-past l e = rw (le-ltb k (depth_of (part_of p) (side_number f)) l) (λ i. slice_at (e i) f 0 0)

      pub slice_made : {w h : ℕ} → k < depth_of (part_of p) (side_number f) → c ≡ cell_in g (part_of p) (side_number f) k 0 0
          → w ≡ width_of (part_of p) (side_number f) → h ≡ height_of (part_of p) (side_number f) → slice_at c f w h ≡ slice_of g (part_of p) f k
      unfolding slice_of
      slice_made l e pw ph = rw (lt-ltb k (depth_of (part_of p) (side_number f)) l) (λ i. slice_at (e i) f (pw i) (ph i))
