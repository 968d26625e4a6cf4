-- Numbers turned onto a side's axes and back; cells at sums of distances.
use mathlib.Core.Path.{◌≡◌, refl, sym, ap, ◌∙◌}
use mathlib.Core.Bool.{Bool, true, false, cond}
use Prim.Native.Nat.{ℕ, zero, suc, ◌+◌, ◌*◌, ◌<◌}
use native.Mathlib.Nat.{add_assoc, mul_assoc, mul_comm, mul_left_comm}
use native.Mathlib.Omega.{arith}
use lib.Dec.{eqb}
use lib.IntN.{ℤ, pos, ◌+ℤ◌, +ℤ_assoc, pos-+ℤ-pos}
use Rattle.stand.specs.Cells.{cell_of}
use Rattle.stand.specs.Shape.{Shape, cell_from, distance, point_of, product}
use Rattle.stand.specs.Sides.{first_at, normal_at, second_at}
use Rattle.stand.specs.declared.Cell.{Cell}
use Rattle.stand.specs.declared.volume.shape.Point.{Point}
use Rattle.stand.specs.declared.volume.shape.Region.{Region}
use Rattle.stand.proofs.Shape.{Within, distance-from}
use Rattle.stand.proofs.Sides.{six}
use Rattle.mesh.specs.Part.{added, cell_in, depth_of, facing, height_of, on_axis, turned, width_of}

-- ---- what holds along the three axes holds of the numbers turned

module _ (Q : ℕ → ℕ → ℕ → Type 0) where
  picked : (b c : Bool) {k u v k' u' v' k'' u'' v'' : ℕ} → Q k k' k'' → Q u u' u'' → Q v v' v''
      → Q (cond b k (cond c u v)) (cond b k' (cond c u' v')) (cond b k'' (cond c u'' v''))
  picked true c p q r = p
  picked false true p q r = q
  picked false false p q r = r

  pub turned_so : (a s : ℕ) {k u v k' u' v' k'' u'' v'' : ℕ} → Q k k' k'' → Q u u' u'' → Q v v' v''
      → Q (turned a s k u v) (turned a s k' u' v') (turned a s k'' u'' v'')
  unfolding turned
  turned_so a s p q r = picked (eqb a (normal_at s)) (eqb a (first_at s)) p q r

pub facing-sum : (s k u v k' u' v' : ℕ) → added (facing s k u v) (facing s k' u' v') ≡ facing s (k + k') (u + u') (v + v')
unfolding added facing
facing-sum s k u v k' u' v' =
    λ i. point_of (on 0 i) (on 1 i) (on 2 i)
  where
    on : (a : ℕ) → turned a s k u v + turned a s k' u' v' ≡ turned a s (k + k') (u + u') (v + v')
    on a = turned_so (λ x y z. x + y ≡ z) a s refl refl refl

pub facing-within : (s : ℕ) {k u v k' u' v' : ℕ} → k < k' → u < u' → v < v' → Within (facing s k' u' v') (facing s k u v)
unfolding facing
facing-within s {k} {u} {v} {k'} {u'} {v'} p q r = record { x = on 0; y = on 1; z = on 2 }
  where
    on : (a : ℕ) → turned a s k u v < turned a s k' u' v'
    on a = turned_so (λ x y z. x < y) a s {k'' = 0} {u'' = 0} {v'' = 0} p q r

-- ---- and back

pub record Along (s : ℕ) (p : Point) (k u v : ℕ) : Type 0 where
  pub normal : on_axis (normal_at s) p ≡ k
  pub first : on_axis (first_at s) p ≡ u
  pub second : on_axis (second_at s) p ≡ v

pub facing-along : (s : ℕ) → s < 6 → (k u v : ℕ) → Along s (facing s k u v) k u v
unfolding facing turned normal_at first_at second_at
facing-along s l k u v = six (λ s. Along s (facing s k u v) k u v) ok ok ok ok ok ok s l
  where
    ok : {s : ℕ} {p : Point} → Along s p (on_axis (normal_at s) p) (on_axis (first_at s) p) (on_axis (second_at s) p)
    ok = record { normal = refl; first = refl; second = refl }

pub facing-back : (s : ℕ) → s < 6 → (p : Point) → facing s (on_axis (normal_at s) p) (on_axis (first_at s) p) (on_axis (second_at s) p) ≡ p
unfolding facing turned normal_at first_at second_at
facing-back s l p =
    six (λ s. facing s (on_axis (normal_at s) p) (on_axis (first_at s) p) (on_axis (second_at s) p) ≡ p) refl refl refl refl refl refl s l

pub facing-product : (s : ℕ) → s < 6 → (k u v : ℕ) → product (facing s k u v) ≡ k * (v * u)
unfolding product facing turned normal_at first_at second_at
facing-product s l k u v =
    six (λ s. product (facing s k u v) ≡ k * (v * u)) x x y y z z s l
  where
    x : k * u * v ≡ k * (v * u)
    x = simp (mul_assoc, mul_comm)

    y : u * k * v ≡ k * (v * u)
    y = simp (mul_assoc, mul_comm)

    z : u * v * k ≡ k * (v * u)
    z = simp (mul_assoc, mul_comm, mul_left_comm)

pub on_axis_lem : (n d : Point) → Within n d → (a : ℕ) → on_axis a d < on_axis a n
on_axis_lem n d h zero = h.x
on_axis_lem n d h (suc zero) = h.y
on_axis_lem n d h (suc (suc a)) = h.z

-- ---- cells

-- from the cell at distances p, the cell at distances e further
pub from-added : (g : Shape) (p e n : Point) → cell_from (record { origin = cell_from g p; size = n }) e ≡ cell_from g (added p e)
unfolding cell_from added
from-added g p e n =
    λ i. cell_of (on g.origin.x p.x e.x i) (on g.origin.y p.y e.y i) (on g.origin.z p.z e.z i)
  where
    on : (o : ℤ) (a b : ℕ) → o +ℤ pos a +ℤ pos b ≡ o +ℤ pos (a + b)
    on o a b = +ℤ_assoc o (pos a) (pos b) ∙ ap (λ (z : ℤ). o +ℤ z) (pos-+ℤ-pos a b)

pub added_assoc : (p q r : Point) → added (added p q) r ≡ added p (added q r)
unfolding added
added_assoc p q r = λ i. point_of (add_assoc p.x q.x r.x i) (add_assoc p.y q.y r.y i) (add_assoc p.z q.z r.z i)

-- two cells of a part are the same only at the same distances
pub from_inj : (g : Shape) (p q : Point) → cell_from g p ≡ cell_from g q → p ≡ q
from_inj g p q e = sym (distance-from g p) ∙ ap (λ (c : Cell). distance g c) e ∙ distance-from g q

-- the cells along the three axes of a part
pub part-size : (r : Region) (s : ℕ) → s < 6 → facing s (depth_of r s) (width_of r s) (height_of r s) ≡ r.count
unfolding depth_of width_of height_of
part-size r s l = facing-back s l r.count

pub record Same (k u v k' u' v' : ℕ) : Type 0 where
  pub normal : k ≡ k'
  pub first : u ≡ u'
  pub second : v ≡ v'

pub facing_inj : (s : ℕ) → s < 6 → {k u v k' u' v' : ℕ} → facing s k u v ≡ facing s k' u' v' → Same k u v k' u' v'
facing_inj s l {k} {u} {v} {k'} {u'} {v'} e =
    let a = facing-along s l k u v in
    let b = facing-along s l k' u' v' in
    record {
      normal = sym a.normal ∙ ap (λ (p : Point). on_axis (normal_at s) p) e ∙ b.normal;
      first = sym a.first ∙ ap (λ (p : Point). on_axis (first_at s) p) e ∙ b.first;
      second = sym a.second ∙ ap (λ (p : Point). on_axis (second_at s) p) e ∙ b.second;
    }

added_cancel : (p q r : Point) → added p q ≡ added p r → q ≡ r
unfolding added
added_cancel p q r e =
    λ i. point_of (on p.x (ap (λ (p : Point). p.x) e) i) (on p.y (ap (λ (p : Point). p.y) e) i) (on p.z (ap (λ (p : Point). p.z) e) i)
  where
    on : (a : ℕ) {b c : ℕ} → a + b ≡ a + c → b ≡ c
    on a h = omega arith

-- two slots of a side have two cells
pub cell_inj : (g : Shape) (r : Region) (s : ℕ) → s < 6 → {k u v k' u' v' : ℕ} → cell_in g r s k u v ≡ cell_in g r s k' u' v' → Same k u v k' u' v'
unfolding cell_in
cell_inj g r s l {k} {u} {v} {k'} {u'} {v'} e =
    facing_inj s l (added_cancel r.low (facing s k u v) (facing s k' u' v') (from_inj g (added r.low (facing s k u v)) (added r.low (facing s k' u' v')) e))
