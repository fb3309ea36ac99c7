use Rattle.values.proofs.SettlingLaws.{controlling_values}
use Rattle.values.proofs.controlling_values.Goals as goal

pub returns : goal.returns
returns c = controlling_values
