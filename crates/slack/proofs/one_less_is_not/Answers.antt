use Rattle.slack.proofs.PeriodLaws as laws
use Rattle.slack.proofs.one_less_is_not.Goals as goal

pub returns : goal.returns
returns c = laws.one_less
