use Rattle.simulation.proofs.Running as laws
use Rattle.simulation.proofs.simulated_is_run.Goals as goal

pub returns : goal.returns
returns c = laws.simulated_is_run
