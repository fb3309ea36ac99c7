use Rattle.rise_fall.proofs.Buffers as laws
use Rattle.rise_fall.proofs.zero_is_one.Goals as goal

pub returns : goal.returns
returns c = laws.zero_is_one
