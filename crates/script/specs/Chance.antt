-- Choices made from a number.
use Rattle.std.specs.Prelude.{ℕ, ◌+◌, ◌-◌, ◌*◌, ◌/◌, ◌%◌, ◌^◌, min, Bool, ◌==◌, bit_xor}

-- the high bits of a number of 64 bits are brought down, and it is multiplied
abbrev pub stirred_once : (shift factor : ℕ) → ℕ → ℕ
stirred_once shift factor x = (bit_xor x (x / 2 ^ shift) * factor) % 2 ^ 64

-- a number of 64 bits from another, such that each bit depends on all
unfoldable pub stirred : ℕ → ℕ
stirred x = bit_xor (stirred_once 27 0x94d0_49bb_1331_11eb (stirred_once 30 0xbf58_476d_1ce4_e5b9 x)) (stirred_once 27 0x94d0_49bb_1331_11eb (stirred_once 30 0xbf58_476d_1ce4_e5b9 x) / 2 ^ 31)

-- the number of 64 bits that belongs to a seed, a kind of choice, and two numbers
unfoldable pub drawn_from : (seed kind a b : ℕ) → ℕ
drawn_from seed kind a b =
    stirred (bit_xor (bit_xor (bit_xor (seed * 0x9e37_79b9_7f4a_7c15 % 2 ^ 64) (kind * 0xc2b2_ae3d_27d4_eb4f % 2 ^ 64)) (a * 0xd6e8_feb8_6659_fd93 % 2 ^ 64)) (b * 0xa076_1d64_78bd_642f % 2 ^ 64))

-- a number from low to high by the lower 32 bits of another, such that all are about as likely
unfoldable pub between : (h low high : ℕ) → ℕ
between h low high = low + (h % 2 ^ 32 * (min (high - low) (2 ^ 32 - 1) + 1)) / 2 ^ 32

abbrev pub odd : ℕ → Bool
odd h = h % 2 == 1
