use Rattle.stand.specs.Lent.{storage_in}
use Rattle.stand.proofs.Refusal.{never_given}
use Rattle.form.proofs.load.Laws.{filled, opened_anew, roomy, zeroed}
use Rattle.form.proofs.load.fill.Goals as goal

pub returns-in_err-volume-clause-outcome : goal.returns-in_err-volume-clause-outcome
returns-in_err-volume-clause-outcome c =
    absurd (never_given (opened_anew c.args.header.volume (storage_in c.args.s.now) c.args.header.formed c.requires.1 c.in_err-volume.ensures.outcome))

pub place-requires : goal.place-requires
place-requires c = roomy _ _ c.requires.0 (zeroed c.args.header.volume (storage_in c.args.s.now) c.args.header.formed c.requires.1 c.in_ok-volume.ensures.outcome)

pub returns-clause-outcome : goal.returns-clause-outcome
returns-clause-outcome c =
    let v = c.args.header.volume in
    let a = storage_in c.args.s.now in
    let e = c.in_ok-volume.ensures.outcome in
    filled v _ c.args.records.count (storage_in c.new.new.s) c.args.header.formed (opened_anew v a c.args.header.formed c.requires.1 e) (zeroed v a c.args.header.formed c.requires.1 e)
    c.place.ensures.placed c.place.ensures.mixed
