use Rattle.std.proofs.Common.{rules, ◌≡◌, ◌∙◌, sym, ap, ℕ, get_or, arith}
use Rattle.mesh.specs.Scan.{slot}
use Rattle.mesh.proofs.Claims.{first-at, second-at}
use Rattle.mesh.proofs.Frame.{step-none, step-put}
use Rattle.mesh.proofs.scan.step_at.Goals as goal

pub returns-then-mask-at-eq0 : goal.returns-then-mask-at-eq0
returns-then-mask-at-eq0 c = step-none c.requires.first _ _ _ (ap (λ (i : ℕ). get_or c.args.mask.now i 0) (sym c.requires.here) ∙ c.if-mask-at-eq0.true)

pub put_quad-requires : goal.put_quad-requires
put_quad-requires c =
    let k = c.claim_at-r.ensures in
    record { lies = c.requires.lies; wide = omega (arith, k.wide, first-at k); high = omega (arith, k.high, second-at k); finish = search rules }

pub returns : goal.returns
returns c =
    let e : get_or c.args.mask.now c.args.at 0 ≡ slot c.args.f.width c.args.mask.now c.args.u c.args.v =
    ap (λ (i : ℕ). get_or c.args.mask.now i 0) c.requires.here in
    step-put c.requires.first _ _ _ (λ z. c.if-mask-at-eq0.false (e ∙ z)) c.claim_at-r.ensures c.put_quad.ensures
