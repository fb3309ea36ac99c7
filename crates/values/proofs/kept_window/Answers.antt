use Rattle.values.proofs.SettlingLaws.{kept_window}
use Rattle.values.proofs.kept_window.Goals as goal

pub returns : goal.returns
returns c = kept_window
