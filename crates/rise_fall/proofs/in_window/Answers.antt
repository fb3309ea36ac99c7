use Rattle.rise_fall.proofs.Keeping as laws
use Rattle.rise_fall.proofs.in_window.Goals as goal

pub returns : goal.returns
returns c = laws.in_window
