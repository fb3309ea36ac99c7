use Rattle.rise_fall.proofs.Keeping as laws
use Rattle.rise_fall.proofs.moves_within.Goals as goal

pub returns : goal.returns
returns c = laws.moves_within
