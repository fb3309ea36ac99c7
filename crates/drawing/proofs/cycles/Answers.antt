use Rattle.circuit.proofs.Known.{sound_of, taken_of}
use Rattle.drawing.proofs.Cycling.{no_cycle, one_more_cycle}
use Rattle.drawing.proofs.cycles.Goals as goal

pub loop-i-init : goal.loop-i-init
loop-i-init c = no_cycle _ _ (sound_of c.args.circuit) (taken_of c.args.circuit) _ _

pub loop-i-preserved : goal.loop-i-preserved
loop-i-preserved c =
    one_more_cycle _ _ (sound_of c.args.circuit) (taken_of c.args.circuit) _ _ _ _ _ _ _
    c.loop-i.invariant c.one_cycle.ensures.settled c.one_cycle.ensures.taken
