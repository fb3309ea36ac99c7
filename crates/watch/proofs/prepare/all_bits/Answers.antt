use Rattle.std.proofs.Common.{arith}
use Rattle.watch.proofs.prepare.all_bits.Goals as goal

pub returns : goal.returns
returns c = record { held = c.in_ok-held.ensures; drawn = c.in_ok-drawn.ensures; signals = omega (arith, c.in_ok-signals.ensures.len, c.in_ok-signals.signals.ok.0, c.signal_count.ensures) }
