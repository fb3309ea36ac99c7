use Rattle.circuits.proofs.Whole.{comments_mean_nothing}
use Rattle.circuits.proofs.comments_mean_nothing.Goals as goal

pub returns : goal.returns
returns c = comments_mean_nothing
