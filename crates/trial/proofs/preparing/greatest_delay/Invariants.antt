use Rattle.trial.specs.Standing.{DelaysWithin}
use Rattle.trial.proofs.preparing.greatest_delay.Given as goal

abbrev pub invariant-loop-numbers : goal.invariant-loop-numbers
invariant-loop-numbers l = DelaysWithin l.circuit.gates.now l.numbers-index l.greatest
