use Rattle.values.proofs.Promising.{passes_no_less}
use Rattle.values.proofs.passes_no_less.Goals as goal

pub returns : goal.returns
returns c = passes_no_less
