use Rattle.std.proofs.Common.{◌≡◌, ◌<◌, subst, arith}
use Rattle.stand.specs.Read.{chunk_origin_call}
use Rattle.stand.specs.Refusal.{gives}
use Rattle.stand.specs.Shape.{sections, shape_of}
use Rattle.stand.specs.declared.volume.Volume.{Volume}
use Rattle.stand.proofs.Read.{corner_made, corner_within}
use Rattle.stand.proofs.volume.Volume.chunk_origin.Goals as goal
use Rattle.stand.proofs.volume.Volume.chunk_origin.Goals.{Else-chunk_total-chunk}

there : (c : Else-chunk_total-chunk) → c.args.chunk < sections (shape_of c.in_ok-header.header.volume)
there c = omega (arith, c.if-chunk_total-chunk.false, c.chunk_total.ensures.total)

pub cell_from-requires : goal.cell_from-requires
cell_from-requires c =
    let h = c.in_ok-header.header in
    corner_within h.volume c.args.chunk h.formed (there (goal.at.cell_from-requires c).Else-chunk_total-chunk) c.corner_of.ensures

pub returns : goal.returns
returns c =
    let h = c.in_ok-header.header in
    subst (λ (v : Volume). gives c.cell_from.result ≡ chunk_origin_call v c.args.chunk) c.in_ok-header.ensures.same
    (corner_made h.volume c.args.chunk h.formed (there (goal.at.returns c).Else-chunk_total-chunk) c.corner_of.ensures c.cell_from.ensures)
