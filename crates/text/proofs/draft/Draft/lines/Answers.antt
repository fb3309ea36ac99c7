use Rattle.std.proofs.Common.{refl, ◌∙◌, inr, arith}
use Rattle.std.proofs.lemmas.Result.{err_from_is_err_and}
use Rattle.lines.proofs.WordLaws.{end_of_end}
use Rattle.text.proofs.MeaningLaws.{one_line, no_line, at_fault}
use Rattle.text.proofs.draft.Draft.lines.Goals as goal

pub returns-in_err-line : goal.returns-in_err-line
returns-in_err-line c =
    let p = err_from_is_err_and c.from_residual.result c.from_residual.ensures.1 in
    let step = c.in-Some.ensures.steps in
    rw (p.1, p.2) (at_fault _ _ c.loop-line.invariant.0 step.0 step.2 c.in_err-line.ensures)

pub returns-in-Done : goal.returns-in-Done
returns-in-Done c =
    let step = c.in-Some.ensures.steps in
    (c.loop-line.invariant.0 ∙ one_line step.0 step.1 step.2 refl _ ∙ rw (c.in_ok-line.ensures, c.in-Done.is, step.1, step.0) refl, omega (arith, step.3), end_of_end _ _ _ c.loop-line.invariant.1 (omega (arith, step.3)) c.loop-line.invariant.2 step.4)

pub loop-line-preserved : goal.loop-line-preserved
loop-line-preserved c =
    let step = c.in-Some.ensures.steps in
    (c.loop-line.invariant.0 ∙ one_line step.0 step.1 step.2 refl _ ∙ rw (c.in_ok-line.ensures, c.in-More.is) refl, omega (arith, step.3), end_of_end _ _ _ c.loop-line.invariant.1 (omega (arith, step.3)) c.loop-line.invariant.2 step.4)

pub returns : goal.returns
returns c = let none = c.in_default.ensures.steps in inr (c.loop-line.invariant.0 ∙ no_line _ _ none.0 ∙ rw none.2 refl)
