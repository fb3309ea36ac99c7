use Rattle.telling.specs.Said.{DelaysSaid}
use Rattle.telling.proofs.said.fill_delays.Given as goal

abbrev pub invariant-loop-k : goal.invariant-loop-k
invariant-loop-k l = DelaysSaid l.fn.bench.script.now l.fn.bench.circuit.gates.now l.t l.k l.said l.delays
