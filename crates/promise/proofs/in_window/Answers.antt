use Rattle.promise.proofs.Keeping as laws
use Rattle.promise.proofs.in_window.Goals as goal

pub returns : goal.returns
returns c = laws.in_window
