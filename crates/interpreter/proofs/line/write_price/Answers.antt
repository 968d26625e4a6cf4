use Rattle.interpreter.specs.Line.{line_of}
use Rattle.interpreter.proofs.Writing.{behind}
use Rattle.interpreter.proofs.line.write_price.Goals as goal

pub returns : goal.returns
unfolding line_of
returns c =
    let panels = c.append_number-after_generation.ensures.appended in
    let faces = c.append_number-after_panels.ensures.appended in
    let cents = c.append_number-after_faces.ensures.appended in
    let done = c.append_number.ensures.appended in
    behind (behind (behind panels faces) cents) done
