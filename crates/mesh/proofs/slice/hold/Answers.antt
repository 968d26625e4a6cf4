use Rattle.std.proofs.Common.{◌∙◌, ap}
use Rattle.stand.specs.Extents.{extent_from}
use Rattle.mesh.specs.Slice.{held_extent}
use Rattle.mesh.proofs.Slicing.{number-held}
use Rattle.mesh.proofs.slice.hold.Goals as goal

pub returns : goal.returns
unfolding held_extent
returns c =
    let d = c.args.d in
    c.from.ensures ∙ ap extent_from c.cell_up.ensures ∙ (λ i. record { x = number-held d.x i; y = number-held d.y i; z = number-held d.z i })
