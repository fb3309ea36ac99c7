use Rattle.circuit.specs.Checked.{of}
use Rattle.step.specs.Stands.{RegistersGo}
use Rattle.step.proofs.state.State.registers_now.Given as goal

abbrev pub invariant-loop-r : goal.invariant-loop-r
invariant-loop-r l = of l.fn.circuit RegistersGo l.fn.told l.r l.initial.self l.self
