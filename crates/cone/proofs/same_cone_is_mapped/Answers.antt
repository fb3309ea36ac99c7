use Rattle.cone.proofs.ConeLaws as laws
use Rattle.cone.proofs.same_cone_is_mapped.Goals as goal

pub returns : goal.returns
returns c = laws.same_cone
