use Rattle.circuit.proofs.Tables.{ones_are}
use Rattle.circuit.proofs.table.ones.Goals as goal

pub returns : goal.returns
returns c = ones_are c.args.table
