use Rattle.promise.proofs.Bounds as laws
use Rattle.promise.proofs.slower.Goals as goal

pub returns : goal.returns
returns c = laws.slower
