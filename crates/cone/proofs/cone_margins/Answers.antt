use Rattle.cone.proofs.RegisterLaws as laws
use Rattle.cone.proofs.cone_margins.Goals as goal

pub returns : goal.returns
returns c = laws.cone_margins
