use Rattle.path.proofs.Telling as laws
use Rattle.path.proofs.none_longer.Goals as goal

pub returns : goal.returns
returns c = laws.none_longer
