use Rattle.std.proofs.Common.{refl}
use Rattle.script.specs.Chance.{stirred}
use Rattle.script.proofs.chance.stir.Goals as goal

pub returns : goal.returns
unfolding stirred
returns c = refl
