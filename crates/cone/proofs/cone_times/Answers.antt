use Rattle.cone.proofs.ConeLaws as laws
use Rattle.cone.proofs.cone_times.Goals as goal

pub returns : goal.returns
returns c = laws.cone_times
