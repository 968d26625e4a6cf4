use Rattle.stand.proofs.Fill.{spot_storable, spot_stored}
use Rattle.stand.proofs.volume.fill.put_spot.Goals as goal

pub slot_at-i-requires : goal.slot_at-i-requires
slot_at-i-requires c = spot_stored _ c.args.s.now c.requires c.counts.ensures.0

pub put_at-requires-clause-safe : goal.put_at-requires-clause-safe
put_at-requires-clause-safe c = spot_storable _ c.args.s.now c.requires c.counts.ensures.0 c.slot_at-i.ensures
