use Rattle.std.proofs.Common.{rules, ◌≡◌, ap, sym}
use Rattle.std.specs.Prelude.{IsErrAnd}
use Rattle.mesh.specs.Visible.{empty_beyond}
use Rattle.mesh.specs.declared.faces.Unmeshed.TheVariants as U
use Rattle.mesh.proofs.Called.{faces_meshed, faces_turned}
use Rattle.mesh.proofs.faces.faces.Goals as goal

pub returns-in_err-stand : goal.returns-in_err-stand
returns-in_err-stand c =
    let a = c.args in
    let d = c.in_err-stand.field-0.0 in
    let x : IsErrAnd c.from_residual.result (λ u. u ≡ U.Refused d) = search rules in
    faces_turned a.v a.cells.now (empty_beyond a.beyond) _ _ d _ x c.in_err-stand.ensures.code

pub returns : goal.returns
returns c =
    let a = c.args in
    let w = c.in_ok-stand.stand in
    let k = c.in_ok-stand.ensures in
    let p = c.whole_part.ensures in
    faces_meshed a.v a.cells.now a.mask.now a.list.now a.beyond w k.same.0 (ap (λ r. r.now) k.same.1) c.whole_part.result p.0 c.mesh_part.ensures (sym k.code) p.1
