use Rattle.worst_paths.proofs.FirstLaws as laws
use Rattle.worst_paths.proofs.passed_by_paths.Goals as goal

pub returns : goal.returns
returns c = laws.passed_by_paths
