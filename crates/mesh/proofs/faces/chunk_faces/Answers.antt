use Rattle.std.proofs.Common.{rules, ◌≡◌, ◌∙◌, ap, sym}
use Rattle.std.specs.Prelude.{IsErrAnd}
use Rattle.stand.specs.Refusal.{first}
use Rattle.stand.specs.declared.volume.Volume.{Volume}
use Rattle.mesh.specs.Faces.{chunk_rules}
use Rattle.mesh.specs.Visible.{empty_beyond}
use Rattle.mesh.specs.declared.faces.Unmeshed.TheVariants as U
use Rattle.mesh.proofs.Called.{chunk_high, chunk_meshed, chunk_turned}
use Rattle.mesh.proofs.faces.chunk_faces.Goals as goal

pub returns-in_err-stand : goal.returns-in_err-stand
returns-in_err-stand c =
    let a = c.args in
    let d = c.in_err-stand.field-0.0 in
    let x : IsErrAnd c.from_residual.result (λ u. u ≡ U.Refused d) = search rules in
    chunk_turned a.v a.cells.now (empty_beyond a.beyond) _ _ d _ x a.chunk c.in_err-stand.ensures.code

pub returns-in_err-check_chunk : goal.returns-in_err-check_chunk
returns-in_err-check_chunk c =
    let a = c.args in
    let d = c.in_err-check_chunk.field-0.0 in
    let k = c.in_ok-stand.ensures in
    let x : IsErrAnd c.from_residual-in_err-check_chunk.result (λ u. u ≡ U.Refused d) = search rules in
    chunk_high a.v a.cells.now (empty_beyond a.beyond) _ _ d _ x a.chunk (sym k.code) (c.in_err-check_chunk.ensures.code ∙ ap (λ (v : Volume). first (chunk_rules v a.chunk)) k.same.0)

pub returns : goal.returns
returns c =
    let a = c.args in
    let w = c.in_ok-stand.stand in
    let k = c.in_ok-stand.ensures in
    let p = c.section_part.ensures in
    chunk_meshed a.v a.cells.now a.mask.now a.list.now a.beyond w k.same.0 (ap (λ r. r.now) k.same.1) c.section_part.result p.0 c.mesh_part.ensures (sym k.code) a.chunk p.1
    (sym (c.in_ok-check_chunk.ensures.code ∙ ap (λ (v : Volume). first (chunk_rules v a.chunk)) k.same.0))
