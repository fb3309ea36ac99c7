use Rattle.worst_paths.proofs.FirstLaws as laws
use Rattle.worst_paths.proofs.first_at_register.Goals as goal

pub returns : goal.returns
returns c = laws.first_at_register
