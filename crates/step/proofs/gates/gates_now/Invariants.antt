use Rattle.std.proofs.Common.{◌+◌}
use Rattle.circuit.specs.Checked.{of, registers_of}
use Rattle.step.specs.Stands.{Settles}
use Rattle.step.proofs.gates.gates_now.Given as goal

abbrev pub invariant-loop-k : goal.invariant-loop-k
invariant-loop-k l = of l.fn.circuit Settles l.fn.told.moment l.fn.told.delays.now (registers_of l.fn.circuit + l.k) l.initial.past l.past
