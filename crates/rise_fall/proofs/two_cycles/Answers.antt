use Rattle.rise_fall.proofs.Comparing as laws
use Rattle.rise_fall.proofs.two_cycles.Goals as goal

pub returns : goal.returns
returns c = laws.two_cycles
