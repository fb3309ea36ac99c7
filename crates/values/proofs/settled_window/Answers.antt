use Rattle.values.proofs.SettlingLaws.{settled_window}
use Rattle.values.proofs.settled_window.Goals as goal

pub returns : goal.returns
returns c = settled_window
