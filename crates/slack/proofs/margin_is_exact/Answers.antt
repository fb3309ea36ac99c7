use Rattle.slack.proofs.MarginLaws as laws
use Rattle.slack.proofs.margin_is_exact.Goals as goal

pub returns : goal.returns
returns c = laws.is_exact
