use Rattle.text.proofs.RefusalLaws.{trimmed_whole}
use Rattle.text.proofs.reader.trimmed_whole.Goals as goal

pub returns : goal.returns
returns c = trimmed_whole
