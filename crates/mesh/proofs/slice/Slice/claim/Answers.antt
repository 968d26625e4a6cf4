use Rattle.std.proofs.Common.{length, div-le_self, arith}
use Rattle.mesh.proofs.Claims.{first-at, second-at}
use Rattle.mesh.proofs.Slicing.{claim_gives, none-narrow, none-short, none_left, slots_fit}
use Rattle.mesh.proofs.Upto.{row_fits}
use Rattle.mesh.proofs.slice.Slice.claim.Goals as goal
use Rattle.mesh.proofs.slice.Slice.claim.Goals.{then-w-eq0-via-else-w-eq0+then-mask-w, then-w-eq0-via-then-w-eq0}

pub returns-then-w-eq0 : goal.returns-then-w-eq0
returns-then-w-eq0 c =
    elim c.then-w-eq0.branch [
      | then-w-eq0-via-then-w-eq0 w ↦ none-narrow _ _ _ w.if-w-eq0.true
      | then-w-eq0-via-else-w-eq0+then-mask-w w ↦ none-short _ _ _ w.if-w-eq0.false w.if-mask-w.true
    ]

pub returns-then-n-q : goal.returns-then-n-q
returns-then-n-q c = none_left _ _ _ c.if-w-eq0.false c.if-mask-w.false c.next_seen-q.ensures c.if-n-q.true

pub panel_of-requires : goal.panel_of-requires
panel_of-requires c =
    let w = c.args.self.width in
    let h = c.args.self.height in
    let k = c.claim_at-r.ensures in
    let n = slots_fit c.args.self c.args.mask.now 0 c.if-w-eq0.false c.if-mask-w.false in
    let f = row_fits w h 0 (omega (arith, k.high, k.some-rows)) in
    let g = c.well_formed.1.0.1 in
    record {
      first = omega (arith, k.wide, k.some-run, first-at k, f);
      second = omega (arith, second-at k, div-le_self c.next_seen-q.result w, c.if-n-q.false);
      wide = omega (arith, k.wide);
      high = omega (arith, k.high, c.if-mask-w.false, div-le_self (length c.args.mask.now) w);
    }

pub returns : goal.returns
returns c =
    claim_gives _ _ _ c.if-w-eq0.false c.if-mask-w.false c.next_seen-q.ensures c.if-n-q.false c.claim_at-r.ensures c.panel_of.ensures
