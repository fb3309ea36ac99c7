use Rattle.std.proofs.Common.{ℕ, ◌<◌}
use Rattle.circuit.specs.Whole.{Ranged}
use Rattle.circuit.proofs.checks.first_unranged.Given as goal

abbrev pub invariant-loop-k : goal.invariant-loop-k
invariant-loop-k l = (q : ℕ) → q < l.k → Ranged l.numbers.gates.now q
