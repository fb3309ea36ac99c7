use Rattle.writing.proofs.NameReadLaws.{names_are_nameable}
use Rattle.writing.proofs.names_are_nameable.Goals as goal

pub returns : goal.returns
returns c = names_are_nameable
