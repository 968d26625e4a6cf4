use Rattle.std.proofs.Common.{ap}
use Rattle.stand.specs.Lent.{storage_in}
use Rattle.form.proofs.load.Laws.{load_bad, load_fits, load_head, load_short, valid_ordered}
use Rattle.form.proofs.load.load.Goals as goal

pub returns-in_err-header-clause-outcome : goal.returns-in_err-header-clause-outcome
returns-in_err-header-clause-outcome c = load_head c.args.form.now _ c.from_residual.result c.in_err-header.ensures.code c.from_residual.ensures.1 (storage_in c.args.s.now)

pub returns-in_err-check-clause-outcome : goal.returns-in_err-check-clause-outcome
returns-in_err-check-clause-outcome c =
    let h = c.in_ok-header in
    load_short c.args.form.now h.ensures.code h.ensures.same (storage_in c.args.s.now) h.header.formed _ c.from_residual-in_err-check.result c.in_err-check.ensures.code c.from_residual-in_err-check.ensures.1

pub returns-in_err-records-clause-outcome : goal.returns-in_err-records-clause-outcome
returns-in_err-records-clause-outcome c =
    let h = c.in_ok-header in
    load_bad c.args.form.now h.ensures.code h.ensures.same (storage_in c.args.s.now) h.header.formed c.in_ok-check.ensures.code
    _ c.from_residual-in_err-records.result c.in_err-records.ensures.code c.from_residual-in_err-records.ensures.1

pub fill-requires : goal.fill-requires
fill-requires c =
    let h = c.in_ok-header in
    let r = c.in_ok-records.ensures in (
      valid_ordered c.args.form.now h.ensures.code h.ensures.same (ap (λ f. f.now) r.same.0) r.code r.same.1,
      load_fits c.args.form.now h.ensures.code h.ensures.same (storage_in c.args.s.now) h.header.formed c.in_ok-check.ensures.code,
    )
