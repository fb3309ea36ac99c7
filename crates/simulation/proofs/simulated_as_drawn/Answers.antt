use Rattle.simulation.proofs.Running as laws
use Rattle.simulation.proofs.simulated_as_drawn.Goals as goal

pub returns : goal.returns
returns c = laws.simulated_as_drawn
