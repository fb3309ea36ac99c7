use Rattle.std.proofs.Common.{ℕ, ◌<◌}
use Rattle.circuit.specs.Lent.{signal_count}
use Rattle.circuit.specs.Whole.{Tied}
use Rattle.circuit.proofs.checks.first_untied.Given as goal

abbrev pub invariant-loop-r : goal.invariant-loop-r
invariant-loop-r l = (q : ℕ) → q < l.r → Tied (signal_count l.numbers.gates.now l.numbers.registers.now) l.numbers.registers.now q
