use Rattle.std.proofs.Common.{◌∙◌, FitsSigned, w64, rules, arith}
use Rattle.std.proofs.lemmas.Int.{ints, to_z-of_z}
use Rattle.slack.proofs.MarginLaws.{alone, smaller, no_smaller}
use Rattle.slack.proofs.margin.worst.Goals.{then-margin-worst, else-margin-worst}
use Rattle.slack.proofs.margin.worst.Goals as goal

pub loop-register-init : goal.loop-register-init
loop-register-init c =
    let fits : FitsSigned w64 c.margin.result = omega (arith, ints) in
    alone _ _ _ (to_z-of_z w64 _ fits ∙ c.margin.ensures)

pub loop-register-preserved : goal.loop-register-preserved
loop-register-preserved c =
    let fits : FitsSigned w64 c.margin-margin.result = search rules in
    let so_far : FitsSigned w64 c.loop-register.worst.margin = search rules in
    let is = to_z-of_z w64 _ fits ∙ c.margin-margin.ensures in
    elim c.if-margin-worst.branch [
      | then-margin-worst w ↦ rw w.worst-is (smaller _ _ _ _ _ c.loop-register.invariant is (grind (arith, ints, w.if-margin-worst.true, to_z-of_z w64 _ so_far)))
      | else-margin-worst w ↦ rw w.worst-is (no_smaller _ _ _ _ _ c.loop-register.invariant is (grind (arith, ints, w.if-margin-worst.false, to_z-of_z w64 _ so_far)))
    ]
