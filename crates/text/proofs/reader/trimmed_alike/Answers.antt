use Rattle.text.proofs.RefusalLaws.{trimmed_alike}
use Rattle.text.proofs.reader.trimmed_alike.Goals as goal

pub returns : goal.returns
returns c = trimmed_alike
