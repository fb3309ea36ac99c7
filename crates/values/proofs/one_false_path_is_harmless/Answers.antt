use Rattle.values.proofs.FalsePaths.{one_false_path_is_harmless}
use Rattle.values.proofs.one_false_path_is_harmless.Goals as goal

pub returns : goal.returns
returns c = one_false_path_is_harmless
