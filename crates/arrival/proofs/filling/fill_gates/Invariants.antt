use Rattle.std.proofs.Common.{◌+◌, get_or}
use Rattle.circuit.specs.Filled.{Filled}
use Rattle.circuit.specs.Lent.{circuit_in}
use Rattle.arrival.specs.Arrival.{arrival}
use Rattle.arrival.specs.declared.edge.Edge.TheVariants.{Late, Early}
use Rattle.arrival.proofs.filling.fill_gates.Given as goal

abbrev pub invariant-loop-k : goal.invariant-loop-k
invariant-loop-k l =
    Filled 0 (l.n + l.k) (arrival Late (circuit_in l.n l.circuit.gates.now) (λ i. get_or l.initial.latest i 0)) l.initial.latest l.latest
    × Filled 0 (l.n + l.k) (arrival Early (circuit_in l.n l.circuit.gates.now) (λ i. get_or l.initial.earliest i 0)) l.initial.earliest l.earliest
