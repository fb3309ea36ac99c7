use Rattle.delays.proofs.MeaningLaws.{reads_line}
use Rattle.delays.proofs.Reader.line.Goals as goal

pub returns-clause-line : goal.returns-clause-line
returns-clause-line c = reads_line _ _ _ _ _ _ c.line.ensures
