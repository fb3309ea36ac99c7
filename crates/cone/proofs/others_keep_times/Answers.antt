use Rattle.cone.proofs.ChangeLaws as laws
use Rattle.cone.proofs.others_keep_times.Goals as goal

pub returns : goal.returns
returns c = laws.others_keep
