use Rattle.rise_fall.proofs.Comparing as laws
use Rattle.rise_fall.proofs.times_slower.Goals as goal

pub returns : goal.returns
returns c = laws.times_slower
