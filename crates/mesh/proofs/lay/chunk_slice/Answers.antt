use Rattle.std.proofs.Common.{rules, ◌≡◌, ◌∙◌, ◌++◌, ℕ, ap, sym, subst, length, replicate, take, drop}
use Rattle.std.specs.Prelude.{IsErrAnd}
use Rattle.stand.specs.Refusal.{first}
use Rattle.stand.specs.Shape.{shape_of}
use Rattle.stand.specs.declared.volume.Volume.{Volume}
use Rattle.mesh.specs.Faces.{chunk_rules}
use Rattle.mesh.specs.Part.{largest_side, section_part}
use Rattle.mesh.specs.Tiles.{Cleared}
use Rattle.mesh.specs.Visible.{empty_beyond}
use Rattle.mesh.proofs.Called.{wiped_cleared, wiped_is}
use Rattle.mesh.proofs.Laying.{slice_high, slice_seen, slice_small, slice_turned}
use Rattle.mesh.proofs.Made.{largest_is, part-below}
use Rattle.mesh.proofs.lay.chunk_slice.Goals as goal

pub returns-in_err-stand : goal.returns-in_err-stand
returns-in_err-stand c =
    let a = c.args in
    let d = c.in_err-stand.field-0.0 in
    let x : IsErrAnd c.from_residual.result (λ f. f ≡ d) = search rules in
    slice_turned a.v a.cells.now a.chunk a.face a.slice (empty_beyond a.beyond) _ d _ x c.in_err-stand.ensures.code

pub returns-in_err-check_chunk : goal.returns-in_err-check_chunk
returns-in_err-check_chunk c =
    let a = c.args in
    let k = c.in_ok-stand.ensures in
    let d = c.in_err-check_chunk.field-0.0 in
    let x : IsErrAnd c.from_residual-in_err-check_chunk.result (λ f. f ≡ d) = search rules in
    slice_high a.v a.cells.now a.chunk a.face a.slice (empty_beyond a.beyond) _ (sym k.code) d _ x (c.in_err-check_chunk.ensures.code ∙ ap (λ (v : Volume). first (chunk_rules v a.chunk)) k.same.0)

pub largest-want-requires : goal.largest-want-requires
largest-want-requires c = part-below c.section_part-p.result

pub returns-then-mask-want : goal.returns-then-mask-want
returns-then-mask-want c =
    let a = c.args in
    let k = c.in_ok-stand.ensures in
    let p = c.section_part-p in
    slice_small a.v a.cells.now a.chunk a.face a.slice (empty_beyond a.beyond) _ (sym k.code)
    (sym (c.in_ok-check_chunk.ensures.code ∙ ap (λ (v : Volume). first (chunk_rules v a.chunk)) k.same.0))
    (largest_is p.result c.largest-want.ensures ∙ ap largest_side p.ensures.1 ∙ ap (λ (v : Volume). largest_side (section_part (shape_of v) a.chunk)) k.same.0)
    c.if-mask-want.true

pub lay_slice-requires : goal.lay_slice-requires
lay_slice-requires c =
    let m = c.args.mask.now in
    let w = c.largest-want.result in
    let e : c.fill.new.self ≡ replicate (length (take w m)) 0 = search rules in
    subst (λ (n : ℕ). Cleared n (c.fill.new.self ++ drop w m)) (largest_is c.section_part-p.result c.largest-want.ensures) (wiped_cleared w m c.if-mask-want.false (wiped_is w m c.if-mask-want.false e))

pub returns : goal.returns
returns c =
    let a = c.args in
    let m = a.mask.now in
    let k = c.in_ok-stand.ensures in
    let p = c.section_part-p in
    let w = c.largest-want.result in
    let e : c.fill.new.self ≡ replicate (length (take w m)) 0 = search rules in
    slice_seen a.v a.cells.now m a.chunk a.face a.slice a.beyond c.in_ok-stand.stand p.result k.same.0 (ap (λ r. r.now) k.same.1) p.ensures.0 p.ensures.1 (sym k.code)
    (sym (c.in_ok-check_chunk.ensures.code ∙ ap (λ (v : Volume). first (chunk_rules v a.chunk)) k.same.0))
    (largest_is p.result c.largest-want.ensures) c.if-mask-want.false (wiped_is w m c.if-mask-want.false e) c.lay_slice.ensures.lies c.lay_slice.ensures.laid
