use Rattle.rise_fall.proofs.Keeping as laws
use Rattle.rise_fall.proofs.window.Goals as goal

pub returns : goal.returns
returns c = laws.window
