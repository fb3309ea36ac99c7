use Rattle.circuit.proofs.Chunks.{register_like}
use Rattle.circuit.proofs.numbers.Numbers.registers.Goals as goal

pub returns-clause-each : goal.returns-clause-each
returns-clause-each c k h = register_like _ _ k (λ j l. c.rows.ensures.each k j h l)
