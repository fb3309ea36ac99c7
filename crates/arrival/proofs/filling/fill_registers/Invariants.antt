use Rattle.circuit.specs.Filled.{Filled}
use Rattle.arrival.specs.Lent.{source}
use Rattle.arrival.specs.declared.edge.Edge.TheVariants.{Late, Early}
use Rattle.arrival.proofs.filling.fill_registers.Given as goal

abbrev pub invariant-loop-r : goal.invariant-loop-r
invariant-loop-r l =
    Filled 0 l.r (source Late l.circuit.registers.now l.circuit.times.now) l.initial.latest l.latest
    × Filled 0 l.r (source Early l.circuit.registers.now l.circuit.times.now) l.initial.earliest l.earliest
