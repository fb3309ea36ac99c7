use Rattle.rise_fall.proofs.Comparing as laws
use Rattle.rise_fall.proofs.setup_narrower.Goals as goal

pub returns : goal.returns
returns c = laws.setup_narrower
