use Rattle.cone.proofs.RegisterLaws as laws
use Rattle.cone.proofs.same_cone_margins.Goals as goal

pub returns : goal.returns
returns c = laws.same_margins
