use Rattle.trial.proofs.preparing.room_for.Goals as goal

pub returns : goal.returns
returns c =
    let clocks = c.clock_bounds-earliest.ensures in
    let state = c.in_ok-state.ensures in
    let bits = state.bits in
    record {
      roomy = record { wide = state.wide; rows = bits.rows; cycles_each = state.cycles_each; latest = clocks.late; apart = bits.apart; small = clocks.small };
      bits = bits.start;
      cycles = state.cycles;
      begins = c.in_ok-teller.ensures;
    }
