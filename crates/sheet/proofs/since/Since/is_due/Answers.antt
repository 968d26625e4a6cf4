use Rattle.std.proofs.Common.{◌∙◌, ℕ, Bool, refl, rules}
use Rattle.std.proofs.lemmas.Iterator.{YieldsList-from_range}
use Rattle.std.proofs.lemmas.Iterator.Search.{any_from_yields_List}
use Rattle.stand.specs.Feed.{changed_of}
use Rattle.stand.specs.Shape.{counted, sections, shape_of}
use Rattle.sheet.specs.Turn.{some_so, step_to}
use Rattle.sheet.proofs.Walked.{due_any}
use Rattle.sheet.proofs.since.Since.is_due.Goals as goal

pub returns : goal.returns
returns c =
    let a = c.args in
    let g = shape_of a.self.header.volume in
    let f : ℕ → Bool = λ s. some_so (changed_of (sections g) a.self.changes.log.now a.self.changes.last.now a.self.mark a.upto) (step_to (counted g) a.t s) in
    any_from_yields_List f _ _ _ c.any.ensures.ran (YieldsList-from_range 0 7 7 refl refl) (λ x b q k. search rules)
    ∙ due_any g a.self.changes.log.now a.self.changes.last.now a.self.mark a.upto a.t c.requires.0 c.requires.1
