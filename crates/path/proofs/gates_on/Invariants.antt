use Rattle.std.proofs.Common.{◌≡◌, ◌+◌, ◌<◌, ◌≤◌, length}
use Rattle.circuit.specs.Lent.{signal_count, drawn}
use Rattle.arrival.specs.Lent.{source}
use Rattle.path.specs.Path.{told}
use Rattle.path.proofs.gates_on.Given as goal

abbrev pub invariant-loop-at : goal.invariant-loop-at
invariant-loop-at l =
    (l.at < signal_count l.a.circuit.gates.now l.a.circuit.registers.now)
    × (l.count + l.at ≤ l.to)
    × (l.count + length (told l.edge (drawn l.a.circuit.gates.now l.a.circuit.registers.now) (source l.edge l.a.circuit.registers.now l.a.circuit.times.now) l.at).1 ≡ length (told l.edge (drawn l.a.circuit.gates.now l.a.circuit.registers.now) (source l.edge l.a.circuit.registers.now l.a.circuit.times.now) l.to).1)

abbrev pub decreases-loop-at : goal.decreases-loop-at
decreases-loop-at l = l.at
