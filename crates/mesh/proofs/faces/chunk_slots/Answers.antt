use Rattle.std.proofs.Common.{rules, ◌≡◌, ◌∙◌, ap, sym, refl, arith}
use Rattle.std.specs.Prelude.{IsErrAnd}
use Rattle.stand.specs.Refusal.{first, gives, header_rules}
use Rattle.stand.specs.declared.volume.Volume.{Volume}
use Rattle.stand.proofs.Refusal.{accepted, begun, exits, first_rest, numbered}
use Rattle.mesh.specs.Faces.{chunk_rules, slots_call}
use Rattle.mesh.proofs.Made.{chunk_largest}
use Rattle.mesh.proofs.Step.{chunks_few}
use Rattle.mesh.proofs.faces.chunk_slots.Goals as goal

pub returns-in_err-header : goal.returns-in_err-header
unfolding slots_call
returns-in_err-header c =
    let d = c.in_err-header.field-0.0 in
    let x : IsErrAnd c.from_residual.result (λ f. f ≡ d) = search rules in
    exits d _ _ x (begun d (header_rules c.args.v) (chunk_rules c.args.v c.args.chunk) c.in_err-header.ensures.code)

pub returns-in_err-check_chunk : goal.returns-in_err-check_chunk
unfolding slots_call numbered
returns-in_err-check_chunk c =
    let k = c.in_ok-header.ensures in
    let d = c.in_err-check_chunk.field-0.0 in
    let x : IsErrAnd c.from_residual-in_err-check_chunk.result (λ f. f ≡ d) = search rules in
    exits d _ _ x
    (c.in_err-check_chunk.ensures.code ∙ ap (λ (v : Volume). first (chunk_rules v c.args.chunk)) k.same ∙ sym (first_rest (header_rules c.args.v) (chunk_rules c.args.v c.args.chunk) refl (sym k.code)))

pub overflow_cast-chunk : goal.overflow_cast-chunk
overflow_cast-chunk c = omega (arith, chunks_few c.in_ok-header.header, c.in_ok-check_chunk.ensures.inside)

pub returns : goal.returns
unfolding slots_call numbered
returns c =
    let a = c.args in
    let k = c.in_ok-header.ensures in
    let z : first (chunk_rules a.v a.chunk) ≡ 0 = sym (c.in_ok-check_chunk.ensures.code ∙ ap (λ (v : Volume). first (chunk_rules v a.chunk)) k.same) in
    ap gives (chunk_largest c.in_ok-header.header a.v a.chunk k.same c.corner_of-corner.ensures c.cut_at.ensures c.largest.ensures)
    ∙ accepted _ (first_rest (header_rules a.v) (chunk_rules a.v a.chunk) refl (sym k.code) ∙ z)
