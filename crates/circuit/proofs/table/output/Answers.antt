use Rattle.circuit.proofs.Tables.{output_is}
use Rattle.circuit.proofs.table.output.Goals as goal

pub returns : goal.returns
returns c = output_is _ _ _ c.args.a c.args.b c.from.ensures c.from-2.ensures
