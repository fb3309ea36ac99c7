use Rattle.script.specs.Chance.{drawn_from}
use Rattle.script.proofs.chance.draw.Goals as goal

pub returns : goal.returns
unfolding drawn_from
returns c = c.stir.ensures
