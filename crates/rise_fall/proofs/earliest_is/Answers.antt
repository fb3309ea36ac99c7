use Rattle.rise_fall.proofs.Times as laws
use Rattle.rise_fall.proofs.earliest_is.Goals as goal

pub returns : goal.returns
returns c = laws.earliest_is
