use Rattle.std.proofs.Common.{ℕ, ◌<◌}
use Rattle.arrival.specs.Lent.{SmallSource}
use Rattle.arrival.proofs.filling.first_large.Given as goal

abbrev pub invariant-loop-i : goal.invariant-loop-i
invariant-loop-i l = (q : ℕ) → q < l.i → SmallSource l.times q
