use Rattle.std.proofs.Common.{◌≡◌, ◌∙◌, refl, sym, ap, ℕ, zero, suc, ◌*◌, ◌<◌, ◌≤◌, ◌⊎◌, ⊎_elim, min, Bool, ◌&&◌, leb, ℤ, pos, negsuc, mul-zero, zero-mul, le-mul_of_pos_right, arith, le-leb}
use mathlib.Core.Bool.{and-false}
use borrow.Author.Tests.{lt-leb}
use lib.Signed.{le_z}
use Rattle.arith.specs.Level.{count_of}
use Rattle.stand.specs.Refusal.{answer, first, gives, refused}
use Rattle.stand.specs.Shape.{counts_of, product}
use Rattle.stand.specs.declared.volume.Extent.{Extent}
use Rattle.stand.specs.declared.volume.shape.Point.{Point}
use Rattle.mesh.specs.Quad.{merged_call, positive}
use Rattle.mesh.proofs.Quad.merged.Goals as goal

count-some : (z : ℤ) → le_z (pos 1) z ≡ leb 1 (count_of z)
count-some (pos n) = refl
count-some (negsuc n) = refl

-- all three are positive if their product is
factors : (a b d : ℕ) → leb 1 a && (leb 1 b && leb 1 d) ≡ leb 1 (a * b * d)
factors zero b d = rw (zero-mul, zero-mul) refl
factors (suc a) zero d = rw (mul-zero, zero-mul) (and-false _)
factors (suc a) (suc b) zero = rw mul-zero (ap (λ (t : Bool). leb 1 (suc a) && t) (and-false _) ∙ and-false _)
factors (suc a) (suc b) (suc d) =
    rw (le-leb 1 (suc a) (omega arith), le-leb 1 (suc b) (omega arith), le-leb 1 (suc d) (omega arith)) (sym (le-leb 1 (suc a * suc b * suc d) (omega (arith, le-mul_of_pos_right {m = suc b} (suc a) (omega arith), le-mul_of_pos_right {m = suc d} (suc a * suc b) (omega arith)))))

module _ (e : Extent) {n : Point} {f : ℕ} (is : n ≡ counts_of e) (held : f ≡ min (n.x * n.y * n.z) 18446744073709551615) where
  some : positive e ≡ leb 1 (product (counts_of e))
  unfolding positive product
  some = (λ i. count-some e.x i && (count-some e.y i && count-some e.z i)) ∙ factors (counts_of e).x (counts_of e).y (counts_of e).z

  faces : f ≡ min (product (counts_of e)) 18446744073709551615
  unfolding product
  faces = held ∙ ap (λ (p : Point). min (p.x * p.y * p.z) 18446744073709551615) is

  turned : (f ≡ 0) ⊎ ((f ≡ 0 → ⊥) × (2147483647 < f)) → refused 13 ≡ merged_call e
  unfolding merged_call first answer
  turned h =
      rw some
      (⊎_elim
      (λ z. rw (lt-leb 1 (product (counts_of e)) (omega (arith, faces, z))) refl)
      (λ z. rw (le-leb 1 (product (counts_of e)) (omega (arith, faces, z.1)), lt-leb (product (counts_of e)) 2147483647 (omega (arith, faces, z.1))) refl) h)

  given : (f ≡ 0 → ⊥) → f ≤ 2147483647 → gives f ≡ merged_call e
  unfolding merged_call first answer
  given z h =
      rw (some, le-leb 1 (product (counts_of e)) (omega (arith, faces)), le-leb (product (counts_of e)) 2147483647 (omega (arith, faces)))
      (ap gives (omega (arith, faces)))

pub returns-then-faces-eq0 : goal.returns-then-faces-eq0
returns-then-faces-eq0 c = turned c.args.self.extent c.counts-n.ensures.0 c.saturating_mul-faces.ensures c.then-faces-eq0.either

pub returns : goal.returns
returns c = given c.args.self.extent c.counts-n.ensures.0 c.saturating_mul-faces.ensures c.if-faces-eq0.false c.if-most-faces.false
