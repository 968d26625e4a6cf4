-- Parts made for the code: how they lie in the stand, and their bounds.
use mathlib.Core.Path.{◌≡◌, refl, sym, ap, ◌∙◌, subst}
use mathlib.Core.Bool.{true}
use Prim.Native.Nat.{ℕ, zero, suc, ◌+◌, ◌-◌, ◌*◌, ◌≤◌, ◌<◌, min, max}
use native.Mathlib.Nat.{le_refl, mul-le-mul, mul_assoc, mul_comm, mul_left_comm}
use native.Mathlib.Omega.{arith}
use Rattle.stand.specs.Shape.{Below, Ranged, Shape, chunk_place, chunks_in, chunks_on, corner, counted, counts_of, levels_of, max_chunks, opens, point_of, product, sections, shape_of, well_formed}
use Rattle.stand.specs.Sides.{axes_at, first_at, normal_at, second_at}
use Rattle.stand.specs.declared.volume.Volume.{Volume}
use Rattle.stand.specs.declared.volume.formed.Formed.{Formed}
use Rattle.stand.specs.declared.volume.shape.Point.{Point}
use Rattle.stand.specs.declared.volume.shape.Region.{Region}
use Rattle.stand.proofs.Shape.{Within, chunks-some, formed-counts, formed-opens, goods, sections-few}
use Rattle.mesh.specs.Frame.{Lies, frame_of}
use Rattle.mesh.specs.Part.{PartLies, added, cut_at, depth_of, height_of, largest_side, on_axis, section_part, tiled, whole_part, width_of}
use Rattle.mesh.specs.Scene.{shape_in}
use Rattle.mesh.specs.Step.{part_in}
use Rattle.mesh.specs.Tiles.{PartIn, part_of}
use Rattle.mesh.specs.declared.axes.Side.{Side}
use Rattle.mesh.specs.declared.scene.Part.{Part}
use Rattle.mesh.specs.declared.scene.Section.{Section}
use Rattle.mesh.proofs.Parts.{place_in, points, side_largest}
use Rattle.mesh.proofs.Step.{added-on, counted-on, level_on, opened, room-on}

-- ---- bounds

factors : (a b d : ℕ) → 1 ≤ a → 1 ≤ b → 1 ≤ d → (a ≤ a * b * d) × (b ≤ a * b * d) × (d ≤ a * b * d)
factors a b d ha hb hd =
    let x : a * 1 ≤ a * b = mul-le-mul (le_refl a) hb in
    let y : 1 * b ≤ a * b = mul-le-mul ha (le_refl b) in
    let xy : a * b * 1 ≤ a * b * d = mul-le-mul (le_refl (a * b)) hd in
    let z : 1 * d ≤ a * b * d = mul-le-mul {n₁ = 1} {n₂ = a * b} (omega arith) (le_refl d) in
    (omega arith, omega arith, omega arith)

module _ (g : Shape) (o : opens g ≡ true) where
  counted-few : (a : ℕ) → on_axis a (counted g) ≤ max_chunks
  unfolding opens product counted chunks_in
  counted-few a =
      let q = goods g.origin g.size (counted g) o in
      let f = factors (counted g).x (counted g).y (counted g).z (chunks-some _ q.x.some) (chunks-some _ q.y.some) (chunks-some _ q.z.some) in
      by a (omega (arith, f.0, q.few)) (omega (arith, f.1, q.few)) (omega (arith, f.2, q.few))
    where
      by : (a : ℕ) → (counted g).x ≤ max_chunks → (counted g).y ≤ max_chunks → (counted g).z ≤ max_chunks → on_axis a (counted g) ≤ max_chunks
      by zero x y z = x
      by (suc zero) x y z = y
      by (suc (suc a)) x y z = z

  size_few : (a : ℕ) → on_axis a g.size ≤ 16 * max_chunks
  unfolding chunks_on
  size_few a = omega (arith, counted-few a, counted-on g a)

  -- ---- a part inside the stand

  module _ (r : Region) (q : PartIn g r) where
    in_on : (a : ℕ) → on_axis a r.low + on_axis a r.count ≤ on_axis a g.size
    in_on zero = q.x
    in_on (suc zero) = q.y
    in_on (suc (suc a)) = q.z

    count-few : (a : ℕ) → on_axis a r.count ≤ 16 * max_chunks
    count-few a = omega (arith, in_on a, size_few a)

    module _ (ranged : Ranged g.origin) where
      pub levels_on : (a : ℕ) → on_axis a (added (levels_of g.origin) r.low) + on_axis a r.count ≤ 4294967296
      levels_on a = omega (arith, added-on a (levels_of g.origin) r.low, level_on g.origin a, in_on a, room-on g o ranged a)

      pub region_lies : (s k : ℕ) → s < 6 → k < depth_of r s → Lies (frame_of g r s k)
      unfolding frame_of depth_of width_of height_of
      region_lies s k hs hk =
          record {
            side = hs;
            axes = refl;
            normal = omega (arith, levels_on (normal_at s));
            first = levels_on (first_at s);
            second = levels_on (second_at s);
            width = count-few (first_at s);
            height = count-few (second_at s);
          }

-- ---- a box of sections

abbrev pub largest_of : Point → ℕ
largest_of n = max (n.x * n.y) (max (n.x * n.z) (n.y * n.z))

-- its extents, as the code reads them
module _ (p : Part) (t : Side) {d : ℕ} where
  pub depth_made : d ≡ on_axis t.axes.normal p.count → d ≡ depth_of (part_of p) t.number
  unfolding axes_at depth_of
  depth_made e = e ∙ (λ j. on_axis (t.read j).normal (p.lies.count j))

  pub width_made : d ≡ on_axis t.axes.first p.count → d ≡ width_of (part_of p) t.number
  unfolding axes_at width_of
  width_made e = e ∙ (λ j. on_axis (t.read j).first (p.lies.count j))

  pub height_made : d ≡ on_axis t.axes.second p.count → d ≡ height_of (part_of p) t.number
  unfolding axes_at height_of
  height_made e = e ∙ (λ j. on_axis (t.read j).second (p.lies.count j))

module _ (p : Part) where
  abbrev shape : Shape
  shape = shape_in p.scene

  o : opens shape ≡ true
  o = opened p.scene

  tiled-most : (a : ℕ) → on_axis a (part_of p).count ≤ on_axis a (counted shape) * 16
  unfolding tiled
  tiled-most zero = omega (arith, p.lies.x)
  tiled-most (suc zero) = omega (arith, p.lies.y)
  tiled-most (suc (suc a)) = omega (arith, p.lies.z)

  -- it lies in the size
  pub part-within : PartIn shape (part_of p)
  unfolding tiled counted chunks_in chunks_on
  part-within =
      let l = p.lies in
      record { x = omega (arith, l.some_x, l.x); y = omega (arith, l.some_y, l.y); z = omega (arith, l.some_z, l.z) }

  pub part-product : product (part_of p).count ≤ 4096 * max_chunks
  unfolding product sections
  part-product =
      let k = counted shape in
      let few : k.x * k.y * k.z ≤ max_chunks = sections-few shape o in
      let xyz = mul-le-mul (mul-le-mul (tiled-most 0) (tiled-most 1)) (tiled-most 2) in
      let e : k.x * 16 * (k.y * 16) * (k.z * 16) ≡ k.x * k.y * k.z * 4096 = scaled_product k.x k.y k.z in
      omega arith
    where
      scaled_product : (a b d : ℕ) → a * 16 * (b * 16) * (d * 16) ≡ a * b * d * 4096
      scaled_product a b d = simp (mul_assoc, mul_comm, mul_left_comm) (omega arith)

  -- each of its counts, and so the code's products
  pub part-below : Below (16 * max_chunks + 1) p.count
  part-below =
      subst (Below (16 * max_chunks + 1)) (sym p.lies.count)
      (record {
        x = omega (arith, tiled-most 0, counted-few shape o 0);
        y = omega (arith, tiled-most 1, counted-few shape o 1);
        z = omega (arith, tiled-most 2, counted-few shape o 2);
      })

  pub largest_is : {r : ℕ} → r ≡ largest_of p.count → r ≡ largest_side (part_of p)
  unfolding largest_side
  largest_is e = e ∙ ap largest_of p.lies.count

-- ---- the most slots of a slice

pub part_slots : (r : Region) (s : ℕ) → s < 6 → height_of r s * width_of r s ≤ largest_side r
part_slots r s h = omega (arith, side_largest r s h, mul_comm (width_of r s) (height_of r s))

-- the most slots of a section's slices, by its corner
pub chunk_largest : (h : Formed) (v : Volume) (i : ℕ) {d n : Point} {w : ℕ} → h.volume ≡ v → d ≡ corner (counts_of h.volume.chunks) i → n ≡ cut_at (shape_of h.volume) d
    → w ≡ largest_of n → w ≡ largest_side (section_part (shape_of v) i)
unfolding largest_side section_part
chunk_largest h v i ev ed en ew =
    ew
    ∙ ap largest_of (en ∙ ap (cut_at (shape_of h.volume)) (ed ∙ ap (λ (k : Point). corner k i) (formed-counts h.volume h.formed)))
    ∙ ap (λ (v : Volume). largest_of (section_part (shape_of v) i).count) ev

-- ---- the part of a section, and of the whole stand

section-tiled : (g : Shape) (i : ℕ) → tiled g (chunk_place (counted g) i) (point_of 1 1 1) ≡ section_part g i
unfolding tiled section_part corner
section-tiled g i = refl

module _ (c : Section) where
  pub section_tiled : tiled (shape_in c.scene) c.place (point_of 1 1 1) ≡ part_in c
  section_tiled = ap (λ (q : Point). tiled (shape_in c.scene) q (point_of 1 1 1)) c.lies.place ∙ section-tiled (shape_in c.scene) c.chunk

  pub section_made : PartLies (shape_in c.scene) c.low c.count c.place (point_of 1 1 1) c.chunks
  unfolding sections
  section_made =
      let l = c.lies in
      let w = subst (Within (counted (shape_in c.scene))) (sym l.place) (place_in (counted (shape_in c.scene)) c.chunk l.chunk) in
      record {
        ranged = l.ranged;
        chunks = l.chunks;
        some_x = omega arith;
        some_y = omega arith;
        some_z = omega arith;
        x = omega (arith, w.x);
        y = omega (arith, w.y);
        z = omega (arith, w.z);
        low = l.low ∙ ap (λ (q : Region). added (levels_of (shape_in c.scene).origin) q.low) (sym section_tiled);
        count = l.count ∙ ap (λ (q : Region). q.count) (sym section_tiled);
      }

whole-on : (n : ℕ) → min (chunks_on n * 16) (n - 0 * 16) ≡ n
unfolding chunks_on
whole-on n = omega arith

whole-tiled : (g : Shape) → tiled g (point_of 0 0 0) (counted g) ≡ whole_part g
unfolding tiled whole_part counted chunks_in
whole-tiled g = λ i. record { low = point_of 0 0 0; count = point_of (whole-on g.size.x i) (whole-on g.size.y i) (whole-on g.size.z i) }

module _ (v : Volume) (ok : well_formed v ≡ true) {k : Point} (ek : k ≡ counts_of v.chunks) where
  pub whole_tiled : tiled (shape_of v) (point_of 0 0 0) k ≡ whole_part (shape_of v)
  whole_tiled = ap (tiled (shape_of v) (point_of 0 0 0)) (ek ∙ formed-counts v ok) ∙ whole-tiled (shape_of v)

  pub whole_made : {low count : Point} → Ranged v.origin → low ≡ levels_of v.origin → count ≡ counts_of v.size → PartLies (shape_of v) low count (point_of 0 0 0) k k
  unfolding shape_of whole_part added counted chunks_in opens
  whole_made r el ec =
      let e : k ≡ counted (shape_of v) = ek ∙ formed-counts v ok in
      let q = goods v.origin (shape_of v).size (counted (shape_of v)) (formed-opens v ok) in
      record {
        ranged = r;
        chunks = e;
        some_x = omega (arith, ap (λ (q : Point). q.x) e, chunks-some _ q.x.some);
        some_y = omega (arith, ap (λ (q : Point). q.y) e, chunks-some _ q.y.some);
        some_z = omega (arith, ap (λ (q : Point). q.z) e, chunks-some _ q.z.some);
        x = omega (arith, ap (λ (q : Point). q.x) e);
        y = omega (arith, ap (λ (q : Point). q.y) e);
        z = omega (arith, ap (λ (q : Point). q.z) e);
        low = el ∙ points (omega arith) (omega arith) (omega arith) ∙ ap (λ (q : Region). added (levels_of v.origin) q.low) (sym whole_tiled);
        count = ec ∙ ap (λ (q : Region). q.count) (sym whole_tiled);
      }
