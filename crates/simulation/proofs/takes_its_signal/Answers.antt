use Rattle.simulation.proofs.Shown as laws
use Rattle.simulation.proofs.takes_its_signal.Goals as goal

pub returns : goal.returns
returns c = laws.takes_its_signal
