use Rattle.std.proofs.Common.{◌∙◌, arith}
use Rattle.trial.proofs.Starts.{delays_more}
use Rattle.trial.proofs.preparing.greatest_delay.Goals as goal

pub loop-numbers-preserved : goal.loop-numbers-preserved
loop-numbers-preserved c =
    let is = c.gates-numbers-items.ensures in
    delays_more c.args.circuit.gates.now _ _ _ c.from-gate.result (c.from-gate.ensures ∙ is.each c.loop-numbers.numbers-index (omega (arith, is.count))) (omega arith) (omega arith) (omega arith) c.loop-numbers.invariant

pub returns : goal.returns
returns c = λ k h. c.loop-numbers.invariant k (omega (arith, c.gates-numbers-items.ensures.count))
