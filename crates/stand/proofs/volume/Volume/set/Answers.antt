use Rattle.stand.proofs.Edit.{place_storable}
use Rattle.stand.proofs.volume.Volume.set.Goals as goal

pub store-requires-clause-safe : goal.store-requires-clause-safe
store-requires-clause-safe c =
    let h = c.in_ok-header.ensures in
    place_storable _ c.args.s.now _ h.code h.same c.place_of.ensures c.in_ok-i.ensures.ok_part
