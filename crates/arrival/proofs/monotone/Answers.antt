use Rattle.arrival.proofs.ArrivalLaws as laws
use Rattle.arrival.proofs.monotone.Goals as goal

pub returns : goal.returns
returns c = laws.monotone
