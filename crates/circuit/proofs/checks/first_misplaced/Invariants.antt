use Rattle.std.proofs.Common.{ℕ, ◌<◌}
use Rattle.circuit.specs.Lent.{register_count}
use Rattle.circuit.specs.Whole.{Placed}
use Rattle.circuit.proofs.checks.first_misplaced.Given as goal

abbrev pub invariant-loop-k : goal.invariant-loop-k
invariant-loop-k l = (q : ℕ) → q < l.k → Placed (register_count l.numbers.registers.now) l.numbers.gates.now q
