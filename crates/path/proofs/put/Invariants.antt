use Rattle.std.proofs.Common.{◌<◌}
use Rattle.circuit.specs.Lent.{register_count, signal_count, drawn}
use Rattle.arrival.specs.Lent.{source}
use Rattle.path.specs.Path.{told, written}
use Rattle.path.proofs.Writing.{Sofar}
use Rattle.path.proofs.put.Given as goal

abbrev pub invariant-loop-at : goal.invariant-loop-at
invariant-loop-at l =
    (l.at < signal_count l.a.circuit.gates.now l.a.circuit.registers.now)
    × Sofar (register_count l.a.circuit.registers.now) (written (register_count l.a.circuit.registers.now) (told l.edge (drawn l.a.circuit.gates.now l.a.circuit.registers.now) (source l.edge l.a.circuit.registers.now l.a.circuit.times.now) l.to)) l.initial.out
    (told l.edge (drawn l.a.circuit.gates.now l.a.circuit.registers.now) (source l.edge l.a.circuit.registers.now l.a.circuit.times.now) l.at) l.i l.out

abbrev pub decreases-loop-at : goal.decreases-loop-at
decreases-loop-at l = l.at
