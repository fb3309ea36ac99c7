use Rattle.drawing.specs.Lent.{Cycled}
use Rattle.drawing.proofs.cycles.Given as goal

abbrev pub invariant-loop-i : goal.invariant-loop-i
invariant-loop-i l = Cycled l.circuit.gates.now l.circuit.registers.now l.i l.initial.bits l.bits l.initial.signals l.signals
