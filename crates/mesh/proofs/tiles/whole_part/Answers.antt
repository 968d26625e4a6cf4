use Rattle.std.proofs.Common.{refl}
use Rattle.mesh.proofs.Made.{whole_made, whole_tiled}
use Rattle.mesh.proofs.tiles.whole_part.Goals as goal

pub invariant_of-result : goal.invariant_of-result
invariant_of-result c =
    let h = c.args.scene.stand.header in
    record { lies = whole_made h.volume h.formed c.counts-chunks.ensures.0 c.levels.ensures.2 c.levels.ensures.0 c.counts.ensures.0 }

pub returns : goal.returns
returns c = let h = c.args.scene.stand.header in (refl, whole_tiled h.volume h.formed c.counts-chunks.ensures.0)
