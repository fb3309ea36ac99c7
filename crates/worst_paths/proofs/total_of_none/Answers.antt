use Rattle.worst_paths.proofs.FigureLaws as laws
use Rattle.worst_paths.proofs.total_of_none.Goals as goal

pub returns : goal.returns
returns c = laws.total_of_none
