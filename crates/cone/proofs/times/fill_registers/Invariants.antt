use Rattle.circuit.specs.Checked.{of}
use Rattle.cone.specs.Alone.{KnowsMarked}
use Rattle.cone.proofs.times.fill_registers.Given as goal

abbrev pub invariant-loop-r : goal.invariant-loop-r
invariant-loop-r l = of l.circuit KnowsMarked l.edge l.marks l.r l.times
