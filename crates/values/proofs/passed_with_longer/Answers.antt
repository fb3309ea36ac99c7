use Rattle.values.proofs.Exceptions.{passed_with_longer}
use Rattle.values.proofs.passed_with_longer.Goals as goal

pub returns : goal.returns
returns c = passed_with_longer
