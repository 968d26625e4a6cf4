use Rattle.std.proofs.Common.{◌≡◌, ℕ}
use Rattle.stand.specs.Shape.{shape_of}
use Rattle.sheet.specs.Turn.{to_come}
use Rattle.sheet.proofs.since.Since.pick.Given as goal

-- the steps so far picked none
abbrev pub invariant-loop-s : goal.invariant-loop-s
invariant-loop-s l =
    let v = l.self.header.volume in
    let come = to_come (shape_of v) l.self.changes.log.now l.self.changes.last.now l.self.mark v.generation l.j in
    (i : ℕ) → come l.s i ≡ come l.from i
