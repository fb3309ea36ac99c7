use Rattle.slack.proofs.MarginLaws as laws
use Rattle.slack.proofs.margin_grows.Goals as goal

pub returns : goal.returns
returns c = laws.grows
