use Rattle.std.proofs.Common.{◌∙◌, ap, refl}
use Rattle.mesh.specs.Part.{section_part}
use Rattle.mesh.specs.Scene.{shape_in}
use Rattle.mesh.proofs.Made.{section_made, section_tiled}
use Rattle.mesh.proofs.tiles.section_part.Goals as goal

pub invariant_of-result : goal.invariant_of-result
invariant_of-result c =
    let s = c.section_of-c.result in
    record { lies = rw c.section_of-c.ensures.0 at (section_made s) }

pub returns : goal.returns
returns c =
    let s = c.section_of-c.result in
    let e = c.section_of-c.ensures in
    (refl, rw e.0 at (section_tiled s) ∙ ap (section_part (shape_in c.args.scene)) e.1)
