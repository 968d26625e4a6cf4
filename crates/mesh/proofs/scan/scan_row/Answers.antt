use Rattle.std.proofs.Common.{◌≡◌, refl, arith}
use Rattle.mesh.specs.Scan.{fresh, row_to}
use Rattle.mesh.proofs.Frame.{wrote-start}
use Rattle.mesh.proofs.Scanned.{row_few}
use Rattle.mesh.proofs.Stretches.{RowScanned, scanned_list, scanned_on, scanned_step, seen_none}
use Rattle.mesh.proofs.Upto.{row_fits}
use Rattle.mesh.proofs.scan.scan_row.Goals as goal
use Rattle.mesh.proofs.scan.scan_row.Goals.{Joined-to-u, else-to-u, then-to-u}

pub loop-u-init : goal.loop-u-init
unfolding row_to
loop-u-init c =
    record {
      wrote = wrote-start _ _ _ _;
      same-mask = refl;
      same_out = refl;
      sixteen = c.told-seen;
      wide = omega arith;
      low = omega arith;
      high = omega arith;
      most = omega arith;
      listed = seen_none _ _ _ _ _;
    }

-- after either arm
mid : (c : Joined-to-u)
    → RowScanned c.args.f c.args.mask.now c.args.v c.args.row c.args.out.now c.args.count c.if-to-u.mask c.if-to-u.out c.if-to-u.seen c.if-to-u.n c.if-to-u.from c.if-to-u.to c.if-to-u.u
mid c =
    let l = c.loop-u in
    (elim c.if-to-u.branch [ then-to-u w ↦ scanned_list l.invariant w.mask-is w.out-is w.seen-is w.n-is w.from-is w.to-is w.u-is w.list_seen.array_long w.stretch_end-to.ensures w.list_seen.ensures | else-to-u w ↦ scanned_step l.invariant w.mask-is w.out-is w.seen-is w.n-is w.from-is w.to-is w.u-is c.loop-u-test.true c.requires.second w.step_at-t.auto.mask w.step_at-t.auto.out w.step_at-t.ensures ])

pub list_seen-requires : goal.list_seen-requires
list_seen-requires c =
    let l = c.loop-u in
    let p = c.requires in
    let e = c.stretch_end-to.ensures in record {
      low = omega (arith, e.0);
      most = e.2;
      room = omega (arith, e.1, l.invariant.same-mask, p.whole, p.here, row_fits c.args.f.width c.args.f.height c.args.v p.second);
    }

pub overflow_add-row : goal.overflow_add-row
overflow_add-row c =
    let p = c.requires in
    omega (arith, p.whole, p.here, c.well_formed.0.0, c.loop-u-test.true, row_fits c.args.f.width c.args.f.height c.args.v p.second)

pub step_at-t-requires : goal.step_at-t-requires
step_at-t-requires c =
    let p = c.requires in
    let l = c.loop-u in
    record {
      lies = p.lies;
      whole = omega (arith, p.whole, l.invariant.same-mask);
      first = c.loop-u-test.true;
      second = p.second;
      here = omega (arith, p.here);
      few = omega (arith, p.few, p.lies.width, l.invariant.wide, l.invariant.wrote.total, row_few c.args.f.width c.args.f.height c.args.v (fresh c.args.mask.now) l.u);
    }

pub seen_from-u-requires : goal.seen_from-u-requires
seen_from-u-requires c = ((mid c).low, (mid c).most)

pub loop-u-smaller : goal.loop-u-smaller
loop-u-smaller c =
    let o = scanned_on (mid (goal.at.loop-u-smaller c).Joined-to-u) c.requires.here c.seen_from-u.ensures in
    let i = c.loop-u-test.true in
    (elim c.if-to-u.branch [ then-to-u w ↦ omega (arith, o.0, o.1.wide, i, w.if-to-u.true, w.stretch_end-to.ensures.0, w.to-is, w.u-is) | else-to-u w ↦ omega (arith, o.0, o.1.wide, i, w.if-to-u.false, w.step_at-t.ensures.low, w.to-is, w.u-is) ])

pub loop-u-preserved : goal.loop-u-preserved
loop-u-preserved c = (scanned_on (mid (goal.at.loop-u-preserved c).Joined-to-u) c.requires.here c.seen_from-u.ensures).1

pub returns : goal.returns
returns c =
    let l = c.loop-u in
    let e : l.u ≡ c.args.f.width = omega (arith, l.invariant.wide, c.loop-u-test.false) in
    rw e at l.invariant.wrote
