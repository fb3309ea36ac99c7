use Rattle.worst_paths.proofs.FigureLaws as laws
use Rattle.worst_paths.proofs.passed_by_figures.Goals as goal

pub returns : goal.returns
returns c = laws.passed_by_figures
