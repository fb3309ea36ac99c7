use Rattle.circuit.proofs.Known.{sound_of, taken_of}
use Rattle.drawing.proofs.Cycling.{cycle_settled, cycle_taken}
use Rattle.drawing.proofs.one_cycle.Goals as goal

pub returns : goal.returns
returns c =
    let m = c.args.circuit in
    let shown = rw c.register_count.ensures at c.show.ensures in
    record {
      settled = cycle_settled _ _ (sound_of m) (taken_of m) _ _ _ _ _ shown c.settle_gates.ensures c.take.ensures;
      taken = cycle_taken _ _ (sound_of m) (taken_of m) _ _ _ _ _ shown c.settle_gates.ensures c.take.ensures;
    }
