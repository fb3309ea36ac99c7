use Rattle.values.proofs.Promising.{promise_by_values}
use Rattle.values.proofs.promise_by_values.Goals as goal

pub returns : goal.returns
returns c = promise_by_values
