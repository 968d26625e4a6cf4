use Rattle.std.proofs.Common.{◌≡◌, ◌∙◌, sym, arith}
use Rattle.mesh.proofs.Claims.{rows_more, rows_start, rows_taken}
use Rattle.mesh.proofs.claim.take_rows.Goals as goal

pub loop-n-init : goal.loop-n-init
loop-n-init c = let a = c.args in rows_start a.mask.now a.w a.at a.run a.most a.x

pub returns-then-run_len-run : goal.returns-then-run_len-run
returns-then-run_len-run c = rows_taken c.loop-n.invariant c.requires.narrow (λ _ e. c.if-run_len-run.true (c.run_len.ensures ∙ e))

pub loop-n-preserved : goal.loop-n-preserved
loop-n-preserved c = rows_more c.loop-n.invariant c.requires.narrow c.loop-n-test.true (sym c.run_len.ensures ∙ c.if-run_len-run.false) c.clear_run.ensures

pub returns : goal.returns
returns c =
    let e : c.loop-n.n ≡ c.args.most = omega (arith, c.loop-n.invariant.high) in
    rw e at (rows_taken c.loop-n.invariant c.requires.narrow (λ l. absurd (omega arith)))
