use Rattle.std.proofs.Common.{refl}
use Rattle.text.specs.Meaning.{drafted, statement}
use Rattle.text.proofs.MeaningLaws.{at_word}
use Rattle.text.proofs.draft.Draft.statement.Goals as goal

pub returns-in-Some : goal.returns-in-Some
returns-in-Some c = rw (at_word c.args.line (drafted c.args.self.now) c.of.result c.in-Some.ensures.0 c.of.ensures) c.said.ensures

pub returns-in-None : goal.returns-in-None
unfolding statement
returns-in-None c = rw c.in-None.ensures refl
