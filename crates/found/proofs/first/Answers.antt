use Rattle.found.proofs.Elements.{further}
use Rattle.found.proofs.first.Goals as goal

pub loop-word-preserved : goal.loop-word-preserved
loop-word-preserved c = λ w h. c.loop-word.invariant w (further c.in-Some.ensures.steps w h)
