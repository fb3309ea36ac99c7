use Rattle.rise_fall.proofs.Keeping as laws
use Rattle.rise_fall.proofs.no_worse_than_widest.Goals as goal

pub returns : goal.returns
returns c = laws.no_worse_than_widest
