use Rattle.std.proofs.Common.{sym, ◌∙◌}
use Rattle.stand.proofs.Opening.{header_is, header-last, header_many}
use Rattle.stand.proofs.volume.opening.header.Goals as goal

pub returns-then-not-few : goal.returns-then-not-few
returns-then-not-few c = header_many _ _ c.sizes-n.ensures.0 c.chunks_in-k.ensures.0 (sym c.few.ensures ∙ c.if-not-few.true)

pub returns-then-not-last_inside : goal.returns-then-not-last_inside
returns-then-not-last_inside c =
    header-last _ _ c.sizes-n.ensures.0 c.chunks_in-k.ensures.0 (sym c.few.ensures ∙ c.if-not-few.false)
    (sym c.last_inside.ensures ∙ c.if-not-last_inside.true)

pub returns : goal.returns
returns c =
    header_is _ _ c.sizes-n.ensures.0 c.chunks_in-k.ensures.0 (sym c.few.ensures ∙ c.if-not-few.false)
    (sym c.last_inside.ensures ∙ c.if-not-last_inside.false)
    c.extent.ensures
    c.extent-2.ensures
