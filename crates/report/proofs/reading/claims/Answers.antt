use Rattle.std.proofs.Common.{refl, ◌∙◌, inl, inr, arith}
use Rattle.lines.proofs.WordLaws.{end_of_end}
use Rattle.report.proofs.MeaningLaws.{one_added, no_line}
use Rattle.report.proofs.reading.claims.Goals as goal

pub returns-in-Err : goal.returns-in-Err
returns-in-Err c =
    let step = c.in-Some.ensures.steps in
    elim c.in-Err.ensures [
      | inl memory ↦ inl memory
      | inr e ↦ inr (c.loop-line.invariant.0 ∙ one_added step.0 step.1 step.2 c.bare.ensures _ ∙ rw e refl)
    ]

pub returns-then-ends : goal.returns-then-ends
returns-then-ends c =
    let step = c.in-Some.ensures.steps in
    (c.loop-line.invariant.0 ∙ one_added step.0 step.1 step.2 c.bare.ensures _ ∙ rw (c.in-Ok.ensures, c.if-ends.true, step.1, step.0) refl, refl, omega (arith, step.3), end_of_end _ _ _ c.loop-line.invariant.1 (omega (arith, step.3)) c.loop-line.invariant.2 step.4)

pub loop-line-preserved : goal.loop-line-preserved
loop-line-preserved c =
    let step = c.in-Some.ensures.steps in
    (c.loop-line.invariant.0 ∙ one_added step.0 step.1 step.2 c.bare.ensures _ ∙ rw (c.in-Ok.ensures, c.if-ends.false) refl, omega (arith, step.3), end_of_end _ _ _ c.loop-line.invariant.1 (omega (arith, step.3)) c.loop-line.invariant.2 step.4)

pub returns : goal.returns
returns c = let none = c.in_default.ensures.steps in inr (c.loop-line.invariant.0 ∙ no_line _ _ none.0 ∙ rw none.2 refl)
