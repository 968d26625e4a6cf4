use Rattle.std.proofs.Common.{◌≡◌, arith}
use mathlib.Core.Logic.{inl, inr}
use Rattle.mesh.proofs.Stretches.{listing_more, listing_start}
use Rattle.mesh.proofs.stretch.list_seen.Goals as goal
use Rattle.mesh.proofs.stretch.list_seen.Goals.{else-blank, then-blank}

pub loop-u-init : goal.loop-u-init
loop-u-init c = listing_start c.args.mask.now c.requires c.told-seen

pub loop-u-preserved : goal.loop-u-preserved
loop-u-preserved c =
    listing_more c.requires c.loop-u.invariant c.loop-u-test.true
    (elim c.if-blank.branch [ then-blank w ↦ inl (w.nearest-is, w.if-blank.true) | else-blank w ↦ inr w.nearest-is ])

pub returns : goal.returns
returns c =
    let l = c.loop-u in
    let e : l.u ≡ c.args.from = omega (arith, l.invariant.low, c.loop-u-test.false) in
    rw e at l.invariant.list
