use Rattle.values.proofs.Promising.{promise_at_both_ends}
use Rattle.values.proofs.promise_at_both_ends.Goals as goal

pub returns : goal.returns
returns c = promise_at_both_ends
