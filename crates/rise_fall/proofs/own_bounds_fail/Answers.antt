use Rattle.rise_fall.proofs.ShortPulse as laws
use Rattle.rise_fall.proofs.own_bounds_fail.Goals as goal

pub returns : goal.returns
returns c = laws.own_bounds_fail
