use Rattle.rise_fall.proofs.Comparing as laws
use Rattle.rise_fall.proofs.one_cycle.Goals as goal

pub returns : goal.returns
returns c = laws.one_cycle
