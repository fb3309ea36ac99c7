use Rattle.slack.proofs.MarginLaws as laws
use Rattle.slack.proofs.passed_by_margins.Goals as goal

pub returns : goal.returns
returns c = laws.by_margins
