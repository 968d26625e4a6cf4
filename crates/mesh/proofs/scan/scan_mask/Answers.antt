use Rattle.std.proofs.Common.{◌≡◌, refl, arith}
use Rattle.mesh.specs.Frame.{Wrote}
use Rattle.mesh.specs.Scan.{fresh, rows_to, scan}
use Rattle.mesh.proofs.Frame.{rows_step, wrote-start}
use Rattle.mesh.proofs.Scanned.{rows_few}
use Rattle.mesh.proofs.Upto.{row_fits}
use Rattle.mesh.proofs.scan.scan_mask.Goals as goal

pub loop-v-init : goal.loop-v-init
unfolding rows_to
loop-v-init c = wrote-start _ _ _ _

pub overflow_mul-v : goal.overflow_mul-v
overflow_mul-v c = omega (arith, c.requires.whole, c.well_formed.0.0, row_fits c.args.f.width c.args.f.height c.loop-v.v c.loop-v-test.true)

pub scan_row-n-requires : goal.scan_row-n-requires
scan_row-n-requires c =
    let p = c.requires in
    let l = c.loop-v in
    let t = c.loop-v-test.true in record {
      lies = p.lies;
      whole = omega (arith, p.whole, l.auto.mask);
      second = t;
      here = refl;
      few = omega (arith, p.few, p.whole, c.well_formed.0.1, l.invariant.total, rows_few c.args.f.width c.args.f.height (fresh c.args.mask.now) l.v, row_fits c.args.f.width c.args.f.height l.v t);
    }

pub loop-v-preserved : goal.loop-v-preserved
loop-v-preserved c = rows_step c.args.mask.now c.loop-v.v c.loop-v.invariant c.scan_row-n.ensures

pub returns : goal.returns
unfolding scan
returns c =
    let l = c.loop-v in
    let w = c.args.f.width in
    let h = c.args.f.height in
    let e : l.v ≡ h = omega arith in
    let r : Wrote c.args.f (scan w h c.args.mask.now) l.mask c.args.out.now l.out c.args.count l.n = rw e at l.invariant in
    record { wrote = r; few = omega (arith, r.total, rows_few w h (fresh c.args.mask.now) h) }
