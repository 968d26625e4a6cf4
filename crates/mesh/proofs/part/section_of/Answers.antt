use Rattle.std.proofs.Common.{arith}
use Rattle.stand.specs.Shape.{counts_of}
use Rattle.mesh.proofs.Step.{chunks_few, section_lies, section_room}
use Rattle.mesh.proofs.part.section_of.Goals as goal

pub overflow_cast-chunk : goal.overflow_cast-chunk
overflow_cast-chunk c = omega (arith, chunks_few c.args.scene.stand.header)

pub overflow_add-result : goal.overflow_add-result
overflow_add-result c =
    omega (arith, (section_room (counts_of c.args.scene.stand.header.volume.chunks) c.args.chunk c.corner_of-corner.ensures).x, chunks_few c.args.scene.stand.header, c.levels-o.ensures.1.x)

pub overflow_add-result-2 : goal.overflow_add-result-2
overflow_add-result-2 c =
    omega (arith, (section_room (counts_of c.args.scene.stand.header.volume.chunks) c.args.chunk c.corner_of-corner.ensures).y, chunks_few c.args.scene.stand.header, c.levels-o.ensures.1.y)

pub overflow_add-result-3 : goal.overflow_add-result-3
overflow_add-result-3 c =
    omega (arith, (section_room (counts_of c.args.scene.stand.header.volume.chunks) c.args.chunk c.corner_of-corner.ensures).z, chunks_few c.args.scene.stand.header, c.levels-o.ensures.1.z)

pub invariant_of-result : goal.invariant_of-result
invariant_of-result c =
    let o = c.levels-o.ensures in
    let h = c.args.scene.stand.header in
    record { lies = section_lies h.volume c.args.chunk h.formed o.2 c.requires o.0 c.corner_of-corner.ensures c.cut_at.ensures c.counts.ensures.0 }
