use Rattle.std.proofs.Common.{◌≡◌, ◌∙◌, FitsSigned, w64, to_z, ◌+◌, ◌+ℤ◌, ◌≤ℤ◌, ◌<ℤ◌, pos, rules, arith}
use Rattle.std.proofs.lemmas.Int.{ints, to_z-of_z}
use Rattle.circuit.specs.Checked.{of}
use Rattle.promise.specs.Machine.{machine_in}
use Rattle.slack.specs.Margin.{margin_of}
use Rattle.worst_paths.proofs.FigureLaws.{none_yet, one_violation, no_violation, few_violations, total_fits}
use Rattle.worst_paths.proofs.figures.negatives.Goals.{then-slack-lt0, else-slack-lt0}
use Rattle.worst_paths.proofs.figures.negatives.Goals as goal

pub loop-r-init : goal.loop-r-init
loop-r-init c = none_yet c.args.edge (of c.args.circuit machine_in)

pub overflow_add-violations : goal.overflow_add-violations
overflow_add-violations c =
    let few = few_violations c.args.edge (of c.args.circuit machine_in) c.loop-r.r in
    let is = c.loop-r.invariant.violations in
    let some = c.args.circuit.some.1 in
    omega arith

pub overflow_add-total : goal.overflow_add-total
overflow_add-total c =
    let e = c.args.edge in
    let m = of c.args.circuit machine_in in
    let fits : FitsSigned w64 c.slack_in-slack.result = search rules in
    let is : c.slack_in-slack.result ≡ margin_of e m c.loop-r.r = c.slack_in-slack.ensures ∙ c.requires.slacks c.loop-r.r (omega arith) in
    let low : c.slack_in-slack.result <ℤ pos 0 = grind (arith, ints, c.if-slack-lt0.true, to_z-of_z w64 _ fits) in
    let next = one_violation e m c.loop-r.r c.loop-r.violations _ _ c.loop-r.invariant is low in
    rw (to_z-of_z w64 _ fits) (total_fits e c.args.circuit (c.loop-r.r + 1) _ _ (omega arith) next)

pub loop-r-preserved : goal.loop-r-preserved
loop-r-preserved c =
    let e = c.args.edge in
    let m = of c.args.circuit machine_in in
    let fits : FitsSigned w64 c.slack_in-slack.result = search rules in
    let is : c.slack_in-slack.result ≡ margin_of e m c.loop-r.r = c.slack_in-slack.ensures ∙ c.requires.slacks c.loop-r.r (omega arith) in
    elim c.if-slack-lt0.branch [
      | then-slack-lt0 w ↦
          let low : c.slack_in-slack.result <ℤ pos 0 = grind (arith, ints, w.if-slack-lt0.true, to_z-of_z w64 _ fits) in
          let next = one_violation e m c.loop-r.r c.loop-r.violations _ _ c.loop-r.invariant is low in
          let sum_fits = total_fits e c.args.circuit (c.loop-r.r + 1) _ _ (omega arith) next in
          let total : to_z w64 c.if-slack-lt0.total-bits ≡ to_z w64 c.loop-r.total-bits +ℤ c.slack_in-slack.result = rw (w.total-is, to_z-of_z w64 _ fits) (to_z-of_z w64 _ sum_fits) in
          rw (w.violations-is, total) next
      | else-slack-lt0 w ↦
          let enough : pos 0 ≤ℤ c.slack_in-slack.result = grind (arith, ints, w.if-slack-lt0.false, to_z-of_z w64 _ fits) in
          rw (w.violations-is, w.total-is) (no_violation e m c.loop-r.r c.loop-r.violations _ _ c.loop-r.invariant is enough)
    ]
