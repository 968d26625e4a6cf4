use Rattle.std.proofs.Common.{◌∙◌, sym, ap}
use Rattle.sheet.specs.Turn.{but_for, turn_of}
use Rattle.sheet.proofs.Turns.{but-of, but_off}
use Rattle.sheet.proofs.since.Since.turn.Goals as goal

pub returns-in_err-t : goal.returns-in_err-t
unfolding turn_of
returns-in_err-t c = c.from_residual.ensures ∙ ap (but_for _) c.in_err-t.ensures.step

pub returns-then-is_due : goal.returns-then-is_due
unfolding turn_of
returns-then-is_due c = sym (but_off _ _ _ (sym c.in_ok-t.ensures.step) (sym c.is_due.ensures ∙ c.if-is_due.true))

pub returns-else-is_due : goal.returns-else-is_due
unfolding turn_of
returns-else-is_due c = sym (but-of _ _ _ (sym c.in_ok-t.ensures.step) (sym c.is_due.ensures ∙ c.if-is_due.false))
