use Rattle.rise_fall.proofs.Buffers as laws
use Rattle.rise_fall.proofs.length_matters.Goals as goal

pub returns : goal.returns
returns c = laws.length_matters
