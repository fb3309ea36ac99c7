use Rattle.trial.proofs.Starts.{stands_furnished, ready_in, out_of_memory}
use Rattle.trial.proofs.preparing.prepare.Goals as goal

pub returns : goal.returns
returns c =
    let k = c.args.bench.circuit in
    let s = c.args.bench.script.now in
    stands_furnished s k.gates.now k.registers.now k.times.now c.in_ok-room_for.field-0 (ready_in s k c.in_ok-fits.ensures c.in_ok-look_at_times.ensures) c.in_ok-room_for.ensures

pub returns-in_err-room_for : goal.returns-in_err-room_for
returns-in_err-room_for c =
    out_of_memory _ c.from_residual-in_err-room_for.ensures.1 (ready_in c.args.bench.script.now c.args.bench.circuit c.in_ok-fits.ensures c.in_ok-look_at_times.ensures)
