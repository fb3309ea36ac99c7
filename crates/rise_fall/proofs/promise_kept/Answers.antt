use Rattle.rise_fall.proofs.Keeping as laws
use Rattle.rise_fall.proofs.promise_kept.Goals as goal

pub returns : goal.returns
returns c = laws.promise_kept
