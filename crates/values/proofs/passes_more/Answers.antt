use Rattle.values.proofs.More.{passes_more}
use Rattle.values.proofs.passes_more.Goals as goal

pub returns : goal.returns
returns c = passes_more
