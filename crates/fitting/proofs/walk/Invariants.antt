use Rattle.std.proofs.Common.{◌≡◌, ◌+◌, ◌*◌, ◌^◌, ◌≤◌}
use Rattle.circuit.specs.Lent.{period}
use Rattle.clocks.specs.Benches.{clock_at}
use Rattle.fitting.proofs.walk.Given as goal

abbrev pub invariant-loop-n : goal.invariant-loop-n
invariant-loop-n l = (l.c ≡ clock_at l.bench l.n l.r) × (l.c ≤ l.n * period l.bench.circuit.times.now + l.n + 2 ^ 32)
