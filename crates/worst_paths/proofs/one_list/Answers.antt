use Rattle.worst_paths.proofs.Order as laws
use Rattle.worst_paths.proofs.one_list.Goals as goal

pub returns : goal.returns
returns c = laws.one_list
