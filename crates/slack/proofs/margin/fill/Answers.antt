use Rattle.std.proofs.Common.{◌∙◌, FitsSigned, w64, rules, arith}
use Rattle.std.proofs.lemmas.Int.{to_z-of_z}
use Rattle.slack.proofs.MarginLaws.{both_more}
use Rattle.slack.proofs.margin.fill.Goals as goal

pub loop-r-preserved : goal.loop-r-preserved
loop-r-preserved c =
    let late : FitsSigned w64 c.margin.result = search rules in
    let early : FitsSigned w64 c.margin-in-loop-r.result = search rules in
    both_more _ _ _ _ _ _ c.loop-r.invariant (omega arith) (to_z-of_z w64 _ late ∙ c.margin.ensures) (to_z-of_z w64 _ early ∙ c.margin-in-loop-r.ensures)
