use Rattle.std.proofs.Common.{◌≡◌, ◌∙◌, ap, ℕ, ◌+◌, ℤ, pos, ◌+ℤ◌, w32, SFits}
use Rattle.arith.specs.Level.{level_of, number_of}
use Rattle.arith.specs.Saturate.{saturate}
use Rattle.stand.specs.Cells.{moved}
use Rattle.stand.specs.declared.volume.shape.Point.{Point}
use Rattle.mesh.specs.Slice.{shifted}
use Rattle.mesh.proofs.Slicing.{number_sat}
use Rattle.mesh.proofs.slice.shift.Goals as goal

-- one coordinate, from its level
read : {l : ℕ} (o : ℤ) (d : ℕ) → SFits w32 o → l ≡ level_of o → number_of (l + d) ≡ saturate (o +ℤ pos d)
read o d f e = ap (λ (l : ℕ). number_of (l + d)) e ∙ number_sat o d f

pub returns : goal.returns
unfolding shifted moved
returns c =
    let s = c.args in
    let l = c.levels.ensures in
    c.cell_up.ensures ∙ (λ i. record {
      x = read s.c.x s.d.x l.2.x (ap (λ (p : Point). p.x) l.0) i;
      y = read s.c.y s.d.y l.2.y (ap (λ (p : Point). p.y) l.0) i;
      z = read s.c.z s.d.z l.2.z (ap (λ (p : Point). p.z) l.0) i;
    })
