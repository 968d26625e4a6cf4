use Rattle.std.proofs.Common.{◌≡◌, get_or, arith}
use Rattle.mesh.proofs.Claims.{taken, taking_more, taking_start}
use Rattle.mesh.proofs.claim.take_run.Goals as goal

pub loop-n-init : goal.loop-n-init
loop-n-init c = let a = c.args in taking_start a.mask.now a.at a.most (get_or a.mask.now a.at 0) c.requires.0

pub returns-then-mask-at : goal.returns-then-mask-at
returns-then-mask-at c = taken c.loop-n.invariant (λ l. c.if-mask-at.true)

pub loop-n-preserved : goal.loop-n-preserved
loop-n-preserved c = taking_more c.loop-n.invariant c.loop-n-test.true c.if-mask-at.false

pub returns : goal.returns
returns c =
    let e : c.loop-n.n ≡ c.args.most = omega (arith, c.loop-n.invariant.high) in
    rw e at (taken c.loop-n.invariant (λ l. absurd (omega arith)))
