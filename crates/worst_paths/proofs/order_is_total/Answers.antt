use Rattle.worst_paths.proofs.Order as laws
use Rattle.worst_paths.proofs.order_is_total.Goals as goal

pub returns : goal.returns
returns c = laws.order_is_total
