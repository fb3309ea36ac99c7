use Rattle.trial.specs.Standing.{ClocksWithin}
use Rattle.trial.proofs.preparing.clock_bounds.Given as goal

abbrev pub invariant-loop-numbers : goal.invariant-loop-numbers
invariant-loop-numbers l = ClocksWithin l.circuit.registers.now l.numbers-index l.earliest l.latest
