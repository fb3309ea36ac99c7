use Rattle.cone.proofs.ConeLaws as laws
use Rattle.cone.proofs.cone_is_closed.Goals as goal

pub returns : goal.returns
returns c = laws.closed
