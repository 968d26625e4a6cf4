use Rattle.std.proofs.Common.{arith, rules}
use Rattle.stand.proofs.Formed.{some-x, some-y}
use Rattle.sheet.proofs.Lines.{line_first, line_second, line_third, plane_le}
use Rattle.sheet.proofs.step.line_on.Goals as goal

pub nonzero_rem-result : goal.nonzero_rem-result
nonzero_rem-result c = some-x c.args.k c.args.c c.requires.0

pub returns-in-0 : goal.returns-in-0
returns-in-0 c = line_first c.args.k c.args.c c.args.a c.in-0.is

pub nonzero_div-result : goal.nonzero_div-result
nonzero_div-result c = some-x c.args.k c.args.c c.requires.0

pub nonzero_rem-result-in-1 : goal.nonzero_rem-result-in-1
nonzero_rem-result-in-1 c = some-y c.args.k c.args.c c.requires.0

pub returns-in-1 : goal.returns-in-1
returns-in-1 c = line_second c.args.k c.args.c c.args.a c.in-1.is

pub nonzero_div-result-in_default : goal.nonzero_div-result-in_default
nonzero_div-result-in_default c = some-x c.args.k c.args.c c.requires.0

pub nonzero_div-result-in_default-2 : goal.nonzero_div-result-in_default-2
nonzero_div-result-in_default-2 c = some-y c.args.k c.args.c c.requires.0

pub overflow_mul-result : goal.overflow_mul-result
overflow_mul-result c = omega (arith, plane_le c.args.k c.args.c c.requires.0, c.requires.1)

pub returns-in_default : goal.returns-in_default
returns-in_default c = line_third c.args.k c.args.c c.args.a (search rules) (search rules)
