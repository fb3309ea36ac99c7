use Rattle.std.proofs.Common.{◌≡◌, true, false, ◌∙◌, ap, ap₂, arith}
use Rattle.path.specs.Path.{input, by_second}
use Rattle.path.proofs.Sums.{before, sum_is, sum_fits}
use Rattle.path.proofs.back.Goals.{then-second, else-second}
use Rattle.path.proofs.back.Goals as goal

pub overflow_add-one : goal.overflow_add-one
overflow_add-one c =
    let h = sum_fits c.args.edge c.args.a.circuit c.args.k c.requires _ (c.from-gate.ensures ∙ c.gates.ensures.each _ c.requires) _ c.on-times.ensures.each false _ (c.from.ensures ∙ c.delays-first.ensures.one) in
    omega arith

pub overflow_add-two : goal.overflow_add-two
overflow_add-two c =
    let h = sum_fits c.args.edge c.args.a.circuit c.args.k c.requires _ (c.from-gate.ensures ∙ c.gates.ensures.each _ c.requires) _ c.on-times.ensures.each true _ (c.from-2.ensures ∙ c.delays-first.ensures.two) in
    omega arith

pub returns : goal.returns
returns c =
    let is = c.from-gate.ensures ∙ c.gates.ensures.each _ c.requires in
    let one = sum_is c.args.edge c.args.a.circuit c.args.k c.requires _ is _ c.on-times.ensures.each false _ (c.from.ensures ∙ c.delays-first.ensures.one) in
    let two = sum_is c.args.edge c.args.a.circuit c.args.k c.requires _ is _ c.on-times.ensures.each true _ (c.from-2.ensures ∙ c.delays-first.ensures.two) in
    let from : c.if-second.from ≡ input c.is_second-second.result c.from-gate.result = elim c.if-second.branch [
      | then-second w ↦ rw (w.if-second.true, w.from-is)
      | else-second w ↦ rw (w.if-second.false, w.from-is)
    ] in
    let here = from ∙ ap (input c.is_second-second.result) is in
    record {
      second = c.is_second-second.ensures ∙ ap₂ (by_second c.args.edge) one two;
      from = here;
      before = omega (arith, here, before c.args.edge c.args.a.circuit c.args.k c.requires _ is _ c.on-times.ensures.each c.is_second-second.result);
    }
