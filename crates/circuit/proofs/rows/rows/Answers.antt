use Rattle.circuit.proofs.Chunks.{at_row}
use Rattle.circuit.proofs.rows.rows.Goals as goal

pub returns-clause-each : goal.returns-clause-each
returns-clause-each g c k j h l = rw c.as_chunks.ensures.front (at_row _ _ _ k j h l)
