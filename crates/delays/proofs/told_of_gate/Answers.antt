use Rattle.delays.proofs.Gates.{told_of_gate}
use Rattle.delays.proofs.told_of_gate.Goals as goal

pub returns : goal.returns
returns c = told_of_gate
