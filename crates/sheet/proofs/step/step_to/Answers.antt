use Rattle.std.proofs.Common.{◌≡◌, ◌∙◌, ap, sym, ◌/◌, ◌%◌, arith, ℕ}
use Rattle.stand.proofs.Shape.{formed-opens, sections-few}
use Rattle.stand.specs.Shape.{shape_of}
use Rattle.stand.specs.Sides.{normal_at}
use Rattle.mesh.proofs.Tables.{even_up, normal_read, odd_down}
use Rattle.sheet.specs.Turn.{line_on}
use Rattle.sheet.proofs.Lines.{back-few, ends, goes_back, goes_on, line_asks, on-few, place-few, starts}
use Rattle.sheet.proofs.Steps.{step_stays}
use Rattle.sheet.proofs.step.step_to.Goals as goal
use Rattle.sheet.proofs.step.step_to.Goals.{After-line_on-l}

-- the side's number, and the chunk along its normal
read : (l : After-line_on-l) → l.side_of-side.result.number ≡ l.args.s
read l = l.side_of-side.ensures ∙ l.face_of.ensures

line : (l : After-line_on-l) → l.line_on-l.result ≡ line_on l.counts.result l.args.c (l.args.s / 2)
unfolding normal_at
line l = l.line_on-l.ensures ∙ ap (λ (a : ℕ). line_on l.counts.result l.args.c a) (normal_read l.side_of-side.result ∙ ap (λ (n : ℕ). n / 2) (read l))

pub returns-then-s-ge-SIDES-clause-step : goal.returns-then-s-ge-SIDES-clause-step
returns-then-s-ge-SIDES-clause-step c = sym (step_stays _ _ _ c.if-s-ge-SIDES.true)

pub line_on-l-requires : goal.line_on-l-requires
unfolding normal_at
line_on-l-requires c =
    let h = c.args.header in
    let a = line_asks h.volume c.args.c c.args.s h.formed c.requires c.counts.ensures.0 in
    (a.0, a.1, omega (arith, normal_read c.side_of-side.result, c.side_of-side.ensures, c.face_of.ensures, c.if-s-ge-SIDES.false))

pub overflow_add-l : goal.overflow_add-l
overflow_add-l c =
    let h = c.args.header in
    omega (arith, place-few h.volume c.args.c c.args.s h.formed c.requires c.counts.ensures.0 (line (goal.at.overflow_add-l c).After-line_on-l), c.requires, sections-few (shape_of h.volume) (formed-opens h.volume h.formed))

pub overflow_add-result : goal.overflow_add-result
overflow_add-result c =
    let h = c.args.header in
    omega (arith, on-few h.volume c.args.c c.args.s h.formed c.requires c.counts.ensures.0 (line (goal.at.overflow_add-result c).After-line_on-l) c.if-l.true, sections-few (shape_of h.volume) (formed-opens h.volume h.formed))

pub returns-then-l-clause-step : goal.returns-then-l-clause-step
returns-then-l-clause-step c =
    let h = c.args.header in
    let l = (goal.at.returns-then-l-clause-step c).After-line_on-l in
    goes_on h.volume c.args.c c.args.s h.formed c.requires c.counts.ensures.0 (line l) c.if-s-ge-SIDES.false (sym (ap (λ (n : ℕ). n % 2) (read l)) ∙ even_up l.side_of-side.result c.if-side.true) c.if-l.true

pub returns-then-side-clause-step : goal.returns-then-side-clause-step
returns-then-side-clause-step c =
    let h = c.args.header in
    let l = (goal.at.returns-then-side-clause-step c).After-line_on-l in
    ends h.volume c.args.c c.args.s h.formed c.requires c.counts.ensures.0 (line l) c.if-s-ge-SIDES.false (sym (ap (λ (n : ℕ). n % 2) (read l)) ∙ even_up l.side_of-side.result c.if-side.true) c.if-l.false

pub overflow_sub-result : goal.overflow_sub-result
overflow_sub-result c =
    let h = c.args.header in
    back-few h.volume c.args.c c.args.s h.formed c.requires c.counts.ensures.0 (line (goal.at.overflow_sub-result c).After-line_on-l) c.if-l-gt0.true

pub returns-then-l-gt0-clause-step : goal.returns-then-l-gt0-clause-step
returns-then-l-gt0-clause-step c =
    let h = c.args.header in
    let l = (goal.at.returns-then-l-gt0-clause-step c).After-line_on-l in
    let o = sym (ap (λ (n : ℕ). n % 2) (read l)) ∙ odd_down l.side_of-side.result c.if-side.false in
    goes_back h.volume c.args.c c.args.s h.formed c.requires c.counts.ensures.0 (line l) c.if-s-ge-SIDES.false (λ z. omega (arith, o)) c.if-l-gt0.true

pub returns-clause-step : goal.returns-clause-step
returns-clause-step c =
    let h = c.args.header in
    let l = (goal.at.returns-clause-step c).After-line_on-l in
    let o = sym (ap (λ (n : ℕ). n % 2) (read l)) ∙ odd_down l.side_of-side.result c.if-side.false in
    starts h.volume c.args.c c.args.s h.formed c.requires c.counts.ensures.0 (line l) c.if-s-ge-SIDES.false (λ z. omega (arith, o)) c.if-l-gt0.false

pub returns-then-l-clause-low : goal.returns-then-l-clause-low
returns-then-l-clause-low c =
    let h = c.args.header in
    on-few h.volume c.args.c c.args.s h.formed c.requires c.counts.ensures.0 (line (goal.at.returns-then-l-clause-low c).After-line_on-l) c.if-l.true
