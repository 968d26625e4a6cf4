use Rattle.std.proofs.Common.{◌≡◌, sym, ◌∙◌}
use Rattle.stand.specs.Shape.{along_at, shape_of, spot_of}
use Rattle.stand.proofs.Formed.{spot_law, three}
use Rattle.stand.proofs.volume.formed.Formed.spot_of.Goals as goal
use Rattle.stand.proofs.volume.formed.Formed.spot_of.Goals.{After-levels-p}

law : (c : After-levels-p)
    → three
    (along_at c.reach-s.result.x.low c.reach-s.result.x.count c.levels-p.result.x)
    (along_at c.reach-s.result.y.low c.reach-s.result.y.count c.levels-p.result.y)
    (along_at c.reach-s.result.z.low c.reach-s.result.z.count c.levels-p.result.z)
    ≡ spot_of (shape_of c.args.self.volume) c.args.c
law c = spot_law c.args.self.volume c.args.c c.reach-s.ensures.ranged c.levels-p.ensures.2 c.reach-s.ensures.are c.levels-p.ensures.0

pub returns-in_err-x : goal.returns-in_err-x
returns-in_err-x c =
    c.from_residual.ensures
    ∙ sym (sym (law (goal.at.returns-in_err-x c).After-levels-p) ∙ rw (sym c.offset_of.ensures ∙ c.in_err-x.was))

pub returns-in_err-y : goal.returns-in_err-y
returns-in_err-y c =
    c.from_residual-in_err-y.ensures
    ∙ sym (sym (law (goal.at.returns-in_err-y c).After-levels-p) ∙ rw (sym c.offset_of.ensures ∙ c.in_ok-x.was, sym c.offset_of-2.ensures ∙ c.in_err-y.was))

pub returns-in_err-z : goal.returns-in_err-z
returns-in_err-z c =
    c.from_residual-in_err-z.ensures
    ∙ sym (sym (law (goal.at.returns-in_err-z c).After-levels-p)
    ∙ rw (sym c.offset_of.ensures ∙ c.in_ok-x.was, sym c.offset_of-2.ensures ∙ c.in_ok-y.was, sym c.offset_of-3.ensures ∙ c.in_err-z.was))

pub returns : goal.returns
returns c = sym (sym (law (goal.at.returns c).After-levels-p) ∙ rw (sym c.offset_of.ensures ∙ c.in_ok-x.was, sym c.offset_of-2.ensures ∙ c.in_ok-y.was, sym c.offset_of-3.ensures ∙ c.in_ok-z.was))
