use Rattle.writing.proofs.CutLaws.{cut_short}
use Rattle.writing.proofs.cut_short.Goals as goal

pub returns : goal.returns
returns c = cut_short
