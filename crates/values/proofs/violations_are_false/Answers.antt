use Rattle.values.proofs.FalsePaths.{violations_are_false}
use Rattle.values.proofs.violations_are_false.Goals as goal

pub returns : goal.returns
returns c = violations_are_false
