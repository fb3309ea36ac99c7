use Rattle.std.proofs.Common.{true, false, ◌∙◌, arith}
use Rattle.cone.proofs.TimeLaws.{sum_is, sum_fits}
use Rattle.cone.proofs.times.input_times.Goals as goal

pub overflow_add-result : goal.overflow_add-result
overflow_add-result c =
    let is = c.from-gate.ensures ∙ c.gates.ensures.each _ c.requires.gate in
    let h = sum_fits c.args.edge c.args.circuit c.args.k c.requires.gate c.args.times.now c.requires.known _ is false _ (c.from.ensures ∙ c.delays-first.ensures.one) in
    omega arith

pub overflow_add-result-2 : goal.overflow_add-result-2
overflow_add-result-2 c =
    let is = c.from-gate.ensures ∙ c.gates.ensures.each _ c.requires.gate in
    let h = sum_fits c.args.edge c.args.circuit c.args.k c.requires.gate c.args.times.now c.requires.known _ is true _ (c.from-2.ensures ∙ c.delays-first.ensures.two) in
    omega arith

pub returns : goal.returns
returns c =
    let is = c.from-gate.ensures ∙ c.gates.ensures.each _ c.requires.gate in
    record {
      one = sum_is c.args.edge c.args.circuit c.args.k c.requires.gate c.args.times.now c.requires.known _ is false _ (c.from.ensures ∙ c.delays-first.ensures.one);
      two = sum_is c.args.edge c.args.circuit c.args.k c.requires.gate c.args.times.now c.requires.known _ is true _ (c.from-2.ensures ∙ c.delays-first.ensures.two);
    }
