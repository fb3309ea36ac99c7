use Rattle.std.proofs.Common.{◌≡◌, ℕ, ◌+◌, ◌-◌, ◌*◌, ◌/◌, ◌^◌, min, ap, ◌∙◌, ap₂}
use lib.Bits.{bit_and}
use Rattle.std.proofs.lemmas.Nat.{and_mask}
use Rattle.script.specs.Chance.{between}
use Rattle.script.proofs.chance.between.Goals as goal

same : (h low high most : ℕ) → most ≡ min (high - low) (2 ^ 32 - 1) → low + (bit_and h (2 ^ 32 - 1) * (most + 1)) / 2 ^ 32 ≡ between h low high
unfolding between
same h low high most e = ap₂ (λ (a b : ℕ). low + (a * (b + 1)) / 2 ^ 32) (and_mask h 32) e

pub returns-clause-value : goal.returns-clause-value
returns-clause-value c = same c.args.h c.args.low c.args.high c.min-most.result (c.min-most.ensures ∙ ap (λ (n : ℕ). min n (2 ^ 32 - 1)) c.saturating_sub.ensures)
