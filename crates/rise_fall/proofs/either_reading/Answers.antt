use Rattle.rise_fall.proofs.Keeping as laws
use Rattle.rise_fall.proofs.either_reading.Goals as goal

pub returns : goal.returns
returns c = laws.either_reading
