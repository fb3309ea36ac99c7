use Rattle.delays.proofs.Telling.{fault_is_first}
use Rattle.delays.proofs.fault_is_first.Goals as goal

pub returns : goal.returns
returns c = fault_is_first
