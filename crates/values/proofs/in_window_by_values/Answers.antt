use Rattle.values.proofs.Promising.{in_window_by_values}
use Rattle.values.proofs.in_window_by_values.Goals as goal

pub returns : goal.returns
returns c = in_window_by_values
