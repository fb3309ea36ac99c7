use Rattle.arrival.proofs.WindowLemma as laws
use Rattle.arrival.proofs.window.Goals as goal

pub returns : goal.returns
returns c = laws.window
