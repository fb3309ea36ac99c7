use Rattle.drawing.proofs.IdealLaws.{ideal_is_settled}
use Rattle.drawing.proofs.ideal_is_settled.Goals as goal

pub returns : goal.returns
returns c = ideal_is_settled
