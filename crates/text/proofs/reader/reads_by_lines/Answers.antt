use Rattle.text.proofs.TrimLaws.{reads_by_lines}
use Rattle.text.proofs.reader.reads_by_lines.Goals as goal

pub returns : goal.returns
returns c = reads_by_lines
