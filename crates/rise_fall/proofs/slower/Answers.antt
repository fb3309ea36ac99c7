use Rattle.rise_fall.proofs.Comparing as laws
use Rattle.rise_fall.proofs.slower.Goals as goal

pub returns : goal.returns
returns c = laws.slower
