use Rattle.simulation.proofs.Shown as laws
use Rattle.simulation.proofs.shows_its_bit.Goals as goal

pub returns : goal.returns
returns c = laws.shows_its_bit
