use Rattle.rise_fall.proofs.Comparing as laws
use Rattle.rise_fall.proofs.fewer_takes.Goals as goal

pub returns : goal.returns
returns c = laws.fewer_takes
