use Rattle.promise.proofs.Going as laws
use Rattle.promise.proofs.can_go.Goals as goal

pub returns : goal.returns
returns c = laws.can_go
