use Rattle.rise_fall.proofs.Keeping as laws
use Rattle.rise_fall.proofs.widest_pass.Goals as goal

pub returns : goal.returns
returns c = laws.widest_pass
