use Rattle.std.proofs.Common.{◌∙◌, arith, sym}
use Rattle.stand.specs.Shape.{shape_of}
use Rattle.sheet.proofs.Turns.{come_none, come_pick, given-low, pick-low}
use Rattle.sheet.proofs.since.Since.pick.Goals as goal

pub turn-requires : goal.turn-requires
turn-requires c = (c.requires.turn.0, given-low (shape_of c.args.self.header.volume) _ _ c.args.self.mark c.args.j c.requires.turn.0 _ c.requires.gives)

pub returns-in-Some : goal.returns-in-Some
returns-in-Some c =
    let g = shape_of c.args.self.header.volume in
    let e = sym c.in-Some.ensures in
    record {
      low = pick-low g _ _ c.args.self.mark c.args.j c.requires.turn.0 _ c.requires.gives _ _ e;
      rest = λ i l. come_pick g _ _ c.args.self.mark _ c.args.j c.requires.turn.0 _ c.requires.gives _ _ i c.requires.turn.1 c.loop-s-test.true e ∙ c.loop-s.invariant i;
      on = omega (arith, c.loop-s.auto.s);
      steps = omega (arith, c.loop-s-test.true);
    }

pub loop-s-preserved : goal.loop-s-preserved
loop-s-preserved c =
    let g = shape_of c.args.self.header.volume in
    λ i. come_none g _ _ c.args.self.mark _ c.args.j c.requires.turn.0 _ c.requires.gives _ i (sym c.in_default.ensures) ∙ c.loop-s.invariant i
