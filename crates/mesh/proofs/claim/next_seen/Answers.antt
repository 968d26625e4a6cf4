use Rattle.std.proofs.Common.{arith, ◌-◌}
use Rattle.mesh.proofs.Claims.{next-seen, next_none}
use Rattle.mesh.proofs.Runs.{run-most}
use Rattle.mesh.proofs.claim.next_seen.Goals as goal

pub returns-then-any_of-eq0 : goal.returns-then-any_of-eq0
returns-then-any_of-eq0 c =
    let a = c.args in
    next_none a.mask.now a.from a.n c.any_of.result c.requires (omega arith) c.if-from-eq0.true c.any_of.ensures c.if-any_of-eq0.true

pub overflow_add-result : goal.overflow_add-result
overflow_add-result c = omega (arith, c.run_len.ensures, run-most c.args.mask.now c.args.from (c.args.n - c.args.from) 0)

pub returns : goal.returns
returns c = let a = c.args in next-seen a.mask.now a.from a.n c.run_len.result (omega arith) c.run_len.ensures
