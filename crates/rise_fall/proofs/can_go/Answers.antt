use Rattle.rise_fall.proofs.Going as laws
use Rattle.rise_fall.proofs.can_go.Goals as goal

pub returns : goal.returns
returns c = laws.can_go
