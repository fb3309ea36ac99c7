use Rattle.worked.proofs.Trying.{rows_have}
use Rattle.worked.proofs.rows_have.Goals as goal

pub returns : goal.returns
returns c = rows_have
