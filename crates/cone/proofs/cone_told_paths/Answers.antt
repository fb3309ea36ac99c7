use Rattle.cone.proofs.ConeLaws as laws
use Rattle.cone.proofs.cone_told_paths.Goals as goal

pub returns : goal.returns
returns c = laws.cone_told
