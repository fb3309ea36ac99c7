use Rattle.circuit.proofs.Chunks.{gate_like}
use Rattle.circuit.proofs.numbers.Numbers.gates.Goals as goal

pub returns-clause-each : goal.returns-clause-each
returns-clause-each c k h = gate_like _ _ k (λ j l. c.rows.ensures.each k j h l)
