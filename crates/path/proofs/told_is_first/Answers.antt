use Rattle.path.proofs.Telling as laws
use Rattle.path.proofs.told_is_first.Goals as goal

pub returns : goal.returns
returns c = laws.told_is_first
