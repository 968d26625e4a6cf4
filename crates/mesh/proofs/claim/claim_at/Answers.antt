use Rattle.std.proofs.Common.{arith}
use Rattle.mesh.proofs.Claims.{claim_done, claim_rows, rows_none}
use Rattle.mesh.proofs.claim.claim_at.Goals as goal
use Rattle.mesh.proofs.claim.claim_at.Goals.{then-most-eq0-via-then-most-eq0, then-most-eq0-via-else-most-eq0+then-mask-at}

pub bounds-mask-at-else-most-eq0 : goal.bounds-mask-at-else-most-eq0
bounds-mask-at-else-most-eq0 c =
    let r = c.take_run-run in
    omega (arith, (claim_rows c.requires _ r.result r.auto.mask r.ensures.high).room 0 (omega arith), r.ensures.low)

pub returns-then-most-eq0 : goal.returns-then-most-eq0
returns-then-most-eq0 c =
    let r = c.take_run-run.ensures in
    claim_done c.requires r (rows_none r.low (λ l. elim c.then-most-eq0.branch [
      | then-most-eq0-via-then-most-eq0 w ↦ absurd (omega (arith, w.if-most-eq0.true))
      | then-most-eq0-via-else-most-eq0+then-mask-at w ↦ w.if-mask-at.true
    ]))

pub take_rows-more-requires : goal.take_rows-more-requires
take_rows-more-requires c =
    let r = c.take_run-run in
    claim_rows c.requires _ r.result r.auto.mask r.ensures.high

pub returns : goal.returns
returns c = claim_done c.requires c.take_run-run.ensures c.take_rows-more.ensures
