use Rattle.std.proofs.Common.{◌<◌, arith, length, mod-lt, rules}
use Rattle.sheet.proofs.Lines.{some-sections}
use Rattle.sheet.proofs.since.Since.given.Goals as goal

pub nonzero_rem-c : goal.nonzero_rem-c
nonzero_rem-c c = omega (arith, c.args.self.log, some-sections c.args.self.header)

pub bounds-log-j : goal.bounds-log-j
bounds-log-j c = mod-lt c.args.j (omega (arith, c.args.self.log, some-sections c.args.self.header))

pub offset_bounds-log-j : goal.offset_bounds-log-j
offset_bounds-log-j c =
    let h : 0 < length c.args.self.changes.log.now = omega (arith, c.args.self.log, some-sections c.args.self.header) in
    search (rules, mod-lt c.args.j h)
