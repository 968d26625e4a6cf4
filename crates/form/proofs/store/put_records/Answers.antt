use Rattle.std.proofs.Common.{◌*◌, refl, arith, rules}
use Rattle.stand.specs.Shape.{shape_of}
use Rattle.form.specs.Entries.{kept_at}
use Rattle.form.proofs.store.Slots.{written_all, written_few, written_sections, written_start}
use Rattle.form.proofs.store.put_records.Goals as goal

pub loop-section-init : goal.loop-section-init
loop-section-init c = written_start _ _ _ _

pub put_section-at-requires : goal.put_section-at-requires
put_section-at-requires c =
    let s = c.args.stand in
    (omega arith, omega (arith, written_few (kept_at (shape_of s.header.volume) s.cells.now) 0 (c.loop-section.section * 4096) c.loop-section.invariant))

pub loop-section-preserved : goal.loop-section-preserved
loop-section-preserved c =
    let s = c.args.stand in
    written_sections (kept_at (shape_of s.header.volume) s.cells.now) 0 (c.loop-section.section * 4096) c.loop-section.invariant c.loop-section.section refl refl (search rules) c.put_section-at.ensures

pub returns : goal.returns
returns c =
    let s = c.args.stand in
    written_all (kept_at (shape_of s.header.volume) s.cells.now) 0 (c.loop-section.section * 4096) c.loop-section.invariant s.header.volume s.cells.now refl refl (omega arith)
