use Rattle.slack.proofs.PeriodLaws as laws
use Rattle.slack.proofs.passed_from_shortest.Goals as goal

pub returns : goal.returns
returns c = laws.passed_from
