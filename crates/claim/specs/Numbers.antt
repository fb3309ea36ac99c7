-- Whole numbers, which may have a sign, as words.
use Rattle.std.specs.Prelude.{ℕ, zero, suc, ◌^◌, Bool, cond, ◌&&◌, List, [], ◌∷◌, length, ℤ, Ok, Err, Result, nat_lt}
use Rattle.std.specs.Str.{all_ascii_digits}
use Rattle.std.specs.Str.Parse.{without_leading_sign, signed_digits_value}
use lib.Signed.{mag}
use Rattle.fields.specs.declared.fault.Expected.{Expected}
use Rattle.fields.specs.declared.fault.Expected.TheVariants.{Whole, Numbers}

-- whether a number fits 64 bits with a sign
abbrev pub fits : ℤ → Bool
fits z = nat_lt (mag z) (2 ^ 63)

-- some digits, and nothing else
abbrev pub is_numeral : List ℕ → Bool
is_numeral ds = nat_lt 0 (length ds) && all_ascii_digits ds

-- a word of digits behind a sign, or behind none, by its value, which fits 64 bits
unfoldable pub integer : List ℕ → Result ℤ Expected
integer w = cond (is_numeral (without_leading_sign w) && fits (signed_digits_value 10 w)) (Ok (signed_digits_value 10 w)) (Err Whole)

-- one number before the others, or the first fault
abbrev pub also : Result ℤ Expected → Result (List ℤ) Expected → Result (List ℤ) Expected
also (Err e) r = Err e
also (Ok z) (Err e) = Err e
also (Ok z) (Ok zs) = Ok (z ∷ zs)

-- of n numbers the last k. Words are looked at from left to right, and no further than the first fault or one word too many
unfoldable pub last_of : (n k : ℕ) → List (List ℕ) → Result (List ℤ) Expected
last_of n zero [] = Ok []
last_of n zero (w ∷ ws) = Err (Numbers n)
last_of n (suc k) [] = Err (Numbers n)
last_of n (suc k) (w ∷ ws) = also (integer w) (last_of n k ws)

-- just n numbers
abbrev pub integers : ℕ → List (List ℕ) → Result (List ℤ) Expected
integers n ws = last_of n n ws
