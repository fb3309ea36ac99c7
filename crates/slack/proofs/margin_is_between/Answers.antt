use Rattle.slack.proofs.MarginLaws.{is_between}
use Rattle.slack.proofs.margin_is_between.Goals as goal

pub returns : goal.returns
returns c = is_between
