use Rattle.std.proofs.Common.{false}
use Rattle.circuit.specs.Lent.{takes}
use Rattle.circuit.specs.Filled.{Filled}
use Rattle.drawing.specs.Lent.{bit_at}
use Rattle.drawing.proofs.take.Given as goal

abbrev pub invariant-loop-r : goal.invariant-loop-r
invariant-loop-r l = Filled false l.r (λ r. bit_at l.signals (takes l.circuit.registers.now r)) l.initial.bits l.bits
