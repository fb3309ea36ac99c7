-- A margin as a part of the period: the binary64 number that is nearest to margin / period.
use Rattle.std.specs.Prelude.{◌≡◌, ℕ, suc, ◌+◌, ◌-◌, ◌*◌, ◌/◌, ◌%◌, ◌^◌, ◌<◌, ◌≤◌, ◌↔◌, ℤ, pos, negsuc, ◌<ℤ◌, Bool, true, false, T, Option, Some, None, to_bits}
use Rattle.std.specs.Float.{Float, nan, inf, fin, binary64, float_is_finite, float_zero, is_sign_negative, ◌<ᶠ◌}
use lib.Ieee.{fits, up, down}
use Rattle.arrival.specs.declared.edge.Edge.TheVariants.{Late}
use Rattle.promise.specs.Machine.{Machine}
use Rattle.slack.specs.Margin.{IsWorst}
use Rattle.slack.specs.declared.worst.Worst.{Worst}

-- x is a binary64 number: no infinity, and not the value that is no number
abbrev pub IsNumber : Float → Type 0
IsNumber x = T (fits binary64 x) × (float_is_finite x ≡ true)

-- the size of a binary64 number without its sign, in units of the smallest one above 0, which is 2 ^ -1074: a whole number
unfoldable pub units : Float → ℕ
units nan = 0
units (inf negative) = 0
units (fin negative m e) = m * up e * 2 ^ 1074 / down e

-- two numbers are one value: they have the same sign and size
abbrev pub IsValue : Float → Float → Type 0
IsValue x y = (is_sign_negative x ≡ is_sign_negative y) × (units x ≡ units y)

-- the size of a margin, and whether it is below 0
abbrev pub size_of : ℤ → ℕ
size_of (pos n) = n
size_of (negsuc n) = suc n

abbrev pub is_below : ℤ → Bool
is_below (pos n) = false
is_below (negsuc n) = true

-- how far apart two sizes are
abbrev pub apart : ℕ → ℕ → ℕ
apart a b = (a - b) + (b - a)

-- how far apart two numbers are, each given by whether it is below 0 and by its size
abbrev pub apart_signed : (negative : Bool) (size : ℕ) (negative' : Bool) (size' : ℕ) → ℕ
apart_signed false a false b = apart a b
apart_signed false a true b = a + b
apart_signed true a false b = a + b
apart_signed true a true b = apart a b

-- how far the number x is from margin / period, in units of 2 ^ -1074 and times the period, so that nothing has to be divided
abbrev pub distance : (margin : ℤ) (period : ℕ) → Float → ℕ
distance margin period x = apart_signed (is_sign_negative x) (units x * period) (is_below margin) (size_of margin * 2 ^ 1074)

-- x is margin / period, rounded once to nearest, ties to even: no binary64 number is nearer, and if another is as near then
-- the last bit of x is 0. It is below 0 exactly if the margin is, and 0 (not -0) for a margin of 0
pub record IsRatio (margin : ℤ) (period : ℕ) (x : Float) : Type 0 where
  pub number : IsNumber x
  pub nearest : (y : Float) → IsNumber y → distance margin period x ≤ distance margin period y
  pub even : (y : Float) → IsNumber y → distance margin period x ≡ distance margin period y → (IsValue y x → ⊥) → to_bits binary64 x % 2 ≡ 0
  pub below : (x <ᶠ float_zero) ↔ (margin <ℤ pos 0)
  pub zero : margin ≡ pos 0 → x ≡ float_zero

-- the smallest setup margin of a machine's registers as a part of its period: none exactly where the period is 0
abbrev pub IsSetupRatio : Machine → Option Float → Type 0
IsSetupRatio m None = m.period ≡ 0
IsSetupRatio m (Some x) = (0 < m.period) × (w : Worst) × IsWorst Late m m.registers w × IsRatio w.margin m.period x
