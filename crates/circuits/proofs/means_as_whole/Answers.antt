use Rattle.circuits.proofs.Whole.{means_as_whole}
use Rattle.circuits.proofs.means_as_whole.Goals as goal

pub returns : goal.returns
returns c = means_as_whole
