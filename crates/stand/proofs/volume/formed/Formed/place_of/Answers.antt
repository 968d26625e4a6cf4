use Rattle.std.proofs.Common.{sym, ◌∙◌}
use Rattle.stand.specs.Shape.{shape_of, slot_at}
use Rattle.stand.proofs.Formed.{place-some, place-stored}
use Rattle.stand.proofs.Shape.{formed-opens}
use Rattle.stand.proofs.volume.formed.Formed.place_of.Goals as goal

pub slot_at-requires : goal.slot_at-requires
slot_at-requires c =
    let h = c.args.self in
    rw (c.chunk_counts.ensures.shape) (place-stored (shape_of h.volume) c.args.c _ (sym c.spot_of.ensures ∙ c.in_ok-d.was) (formed-opens h.volume h.formed))

pub returns : goal.returns
returns c =
    place-some (shape_of c.args.self.volume) c.args.c _ (sym c.spot_of.ensures ∙ c.in_ok-d.was) (c.slot_at.ensures ∙ (λ i. slot_at (c.chunk_counts.ensures.shape i) c.in_ok-d.d))
