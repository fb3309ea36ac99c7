use Rattle.std.proofs.Common.{refl, ◌∙◌, arith}
use Rattle.std.proofs.lemmas.Result.{err_from_is_err_and}
use Rattle.lines.proofs.WordLaws.{end_of_end}
use Rattle.text.proofs.MeaningLaws.{one_outside, no_line_outside, at_fault_outside}
use Rattle.text.proofs.draft.Draft.first.Goals as goal

pub returns-in_err-draft : goal.returns-in_err-draft
returns-in_err-draft c =
    let p = err_from_is_err_and c.from_residual.result c.from_residual.ensures.1 in
    let step = c.in-Some.ensures.steps in
    rw (p.1, p.2) (at_fault_outside _ c.loop-line.invariant.0 step.0 step.2 c.in_err-draft.ensures)

pub returns-in-Some-2 : goal.returns-in-Some-2
returns-in-Some-2 c =
    let step = c.in-Some.ensures.steps in
    (c.loop-line.invariant.0 ∙ one_outside step.0 step.1 step.2 refl ∙ rw (c.in_ok-draft.ensures, c.in-Some-2.is, step.0, ← step.1) refl, omega (arith, step.3), end_of_end _ _ _ c.loop-line.invariant.1 (omega (arith, step.3)) c.loop-line.invariant.2 step.4)

pub loop-line-preserved : goal.loop-line-preserved
loop-line-preserved c =
    let step = c.in-Some.ensures.steps in
    (c.loop-line.invariant.0 ∙ one_outside step.0 step.1 step.2 refl ∙ rw (c.in_ok-draft.ensures, c.in_default-2.is) refl, omega (arith, step.3), end_of_end _ _ _ c.loop-line.invariant.1 (omega (arith, step.3)) c.loop-line.invariant.2 step.4)

pub returns : goal.returns
returns c = let none = c.in_default.ensures.steps in c.loop-line.invariant.0 ∙ no_line_outside _ none.0
