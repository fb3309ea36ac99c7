use Rattle.rise_fall.proofs.Buffers as laws
use Rattle.rise_fall.proofs.equal_bounds_pass_more.Goals as goal

pub returns : goal.returns
returns c = laws.equal_bounds_pass_more
