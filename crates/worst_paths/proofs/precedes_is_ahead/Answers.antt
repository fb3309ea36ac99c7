use Rattle.worst_paths.proofs.FirstLaws as laws
use Rattle.worst_paths.proofs.precedes_is_ahead.Goals as goal

pub returns : goal.returns
returns c = laws.precedes_is_ahead
