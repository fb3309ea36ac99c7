use Rattle.values.proofs.SettlingLaws.{window_by_values}
use Rattle.values.proofs.window_by_values.Goals as goal

pub returns : goal.returns
returns c = window_by_values
