use Rattle.delays.proofs.Telling.{told_by_lines}
use Rattle.delays.proofs.told_by_lines.Goals as goal

pub returns : goal.returns
returns c = told_by_lines
