use Rattle.slack.proofs.MarginLaws.{with_needs}
use Rattle.slack.proofs.passed_with_needs.Goals as goal

pub returns : goal.returns
returns c = with_needs
