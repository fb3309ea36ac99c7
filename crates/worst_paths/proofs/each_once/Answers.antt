use Rattle.worst_paths.proofs.FirstLaws as laws
use Rattle.worst_paths.proofs.each_once.Goals as goal

pub returns : goal.returns
returns c = laws.each_once
