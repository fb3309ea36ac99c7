-- What is chosen lies within its bounds.
use Rattle.std.proofs.Common.{ℕ, suc, ◌+◌, ◌-◌, ◌*◌, ◌/◌, ◌%◌, ◌^◌, ◌<◌, ◌≤◌, min, arith}
use Rattle.std.proofs.lemmas.Nat.{div_below, mul-le, mod_below}
use Rattle.script.specs.Chance.{between}

-- a part of a whole that is below 1 leaves a number below the whole
scaled : (h s : ℕ) → h < 2 ^ 32 → 0 < s → h * s / 2 ^ 32 < s
scaled h s l pos = div_below (h * s) (2 ^ 32) s (omega arith) (omega (arith, mul-le (suc h) s (2 ^ 32) s l (omega arith)))

pub between_in : (h low high : ℕ) → low ≤ high → (low ≤ between h low high) × (between h low high ≤ high)
unfolding between
between_in h low high o = let s = scaled (h % 2 ^ 32) (min (high - low) (2 ^ 32 - 1) + 1) (mod_below h (2 ^ 32) (omega arith)) (omega arith) in (omega arith, omega arith)
