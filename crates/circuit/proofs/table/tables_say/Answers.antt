use Rattle.std.proofs.Common.{refl}
use Rattle.circuit.proofs.Tables.{tables_say}
use Rattle.circuit.proofs.table.tables_say.Goals as goal

pub returns : goal.returns
returns c = record { each = tables_say; constants = (refl, refl, refl, refl, refl, refl, refl, refl, refl, refl, refl, refl, refl, refl, refl, refl) }
