use Rattle.watch.proofs.Beside.{start_size, start_run, start_drawn, room_size}
use Rattle.watch.proofs.watch.Watch.prepare.Goals as goal

pub invariant_of-result : goal.invariant_of-result
invariant_of-result c =
    let begun = c.new-trial.ensures.begun in
    record {
      held_size = start_size _ _ begun _ c.in_ok-held.ensures.held;
      drawn_size = start_size _ _ begun _ c.in_ok-held.ensures.drawn;
      signals_size = room_size _ _ begun _ c.in_ok-held.ensures.held _ c.in_ok-held.ensures.signals;
      as_run = start_run _ _ begun _ c.in_ok-held.ensures.held;
      as_drawn = start_drawn _ _ begun _ c.in_ok-held.ensures.drawn;
    }
