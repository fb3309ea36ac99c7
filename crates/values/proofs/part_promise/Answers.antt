use Rattle.values.proofs.ClosedPart.{part_promise}
use Rattle.values.proofs.part_promise.Goals as goal

pub returns : goal.returns
returns c = part_promise
