use Rattle.worst_paths.proofs.FirstLaws as laws
use Rattle.worst_paths.proofs.first_is_worst.Goals as goal

pub returns : goal.returns
returns c = laws.first_is_worst
