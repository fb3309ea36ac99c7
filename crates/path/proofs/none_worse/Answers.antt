use Rattle.path.proofs.Telling as laws
use Rattle.path.proofs.none_worse.Goals as goal

pub returns : goal.returns
returns c = laws.none_worse
