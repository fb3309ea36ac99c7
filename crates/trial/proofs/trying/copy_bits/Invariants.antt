use Rattle.std.proofs.Common.{◌≡◌, ℕ, ◌<◌, false, get_or}
use Rattle.history.specs.Kept.{kept}
use Rattle.trial.proofs.trying.copy_bits.Given as goal

abbrev pub invariant-loop-r : goal.invariant-loop-r
invariant-loop-r l = (k : ℕ) → k < l.r → get_or l.bit-items k false ≡ kept l.from k l.cycle
