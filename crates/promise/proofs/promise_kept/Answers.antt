use Rattle.promise.proofs.Keeping as laws
use Rattle.promise.proofs.promise_kept.Goals as goal

pub returns : goal.returns
returns c = laws.promise_kept
