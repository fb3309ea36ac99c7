use Rattle.writing.proofs.AgainLaws.{written_is_read}
use Rattle.writing.proofs.written_is_read.Goals as goal

pub returns : goal.returns
returns c = written_is_read
