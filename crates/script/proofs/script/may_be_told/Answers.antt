use Rattle.script.proofs.Telling.{may_be_told}
use Rattle.script.proofs.script.may_be_told.Goals as goal

pub returns : goal.returns
returns c = may_be_told
