use Rattle.std.proofs.Common.{◌≡◌, ◌/◌}
use Rattle.circuit.specs.Lent.{period}
use Rattle.trial.proofs.Starts.{bits_ready}
use Rattle.trial.proofs.preparing.bits_for.Goals as goal

pub returns : goal.returns
returns c =
    let k = c.args.bench.circuit in
    let apart : c.from.result ≡ c.saturating_sub.result / period k.times.now = rw c.period.ensures at c.from.ensures in
    bits_ready c.args.bench.script.now k.gates.now k.registers.now k.times.now c.args.earliest c.args.latest _ _ _ _ c.requires.period c.requires.early c.saturating_sub.ensures apart (rw c.register_count.ensures at c.in_ok-bits.ensures)
    c.start_bits.ensures
