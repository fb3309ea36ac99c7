use Rattle.values.proofs.Promising.{slower_by_values}
use Rattle.values.proofs.slower_by_values.Goals as goal

pub returns : goal.returns
returns c = slower_by_values
