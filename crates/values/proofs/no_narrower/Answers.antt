use Rattle.values.proofs.SettlingLaws.{no_narrower}
use Rattle.values.proofs.no_narrower.Goals as goal

pub returns : goal.returns
returns c = no_narrower
