use Rattle.std.proofs.Common.{length}
use Rattle.circuit.specs.Checked.{registers_of}
use Rattle.drawing.proofs.Settling.{Sofar}
use Rattle.drawing.proofs.settle_gates.Given as goal

abbrev pub invariant-loop-gate : goal.invariant-loop-gate
invariant-loop-gate l = Sofar (registers_of l.circuit) l.circuit.gates.now l.initial.signals l.at l.rest l.signals

abbrev pub decreases-loop-gate : goal.decreases-loop-gate
decreases-loop-gate l = length l.rest
