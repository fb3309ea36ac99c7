use Rattle.std.proofs.Common.{◌≡◌, ℕ, ◌<◌, ◌≤◌}
use Rattle.history.specs.Kept.{kept}
use Rattle.step.proofs.registers.still.Given as goal

abbrev pub invariant-loop-u : goal.invariant-loop-u
invariant-loop-u l = (v : ℕ) → l.from ≤ v → v < l.u → kept l.past l.signal v ≡ l.bit
