use Rattle.worked.proofs.Failing.{weaker_tests_fail}
use Rattle.worked.proofs.weaker_tests_fail.Goals as goal

pub returns : goal.returns
returns c = weaker_tests_fail
