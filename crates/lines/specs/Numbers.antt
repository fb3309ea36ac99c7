-- Numbers, as words of digits.
use Rattle.std.specs.Prelude.{◌≡◌, ℕ, ◌^◌, min, cond, ◌&&◌, List, ◌∷◌, length, take, Ok, Err, Result, nat_lt}
use Rattle.std.specs.Str.Parse.{digits_value, AllDigits}
use Rattle.lines.specs.Words.{words}
use Rattle.std.specs.Str.{all_ascii_digits}
use Rattle.lines.specs.declared.Unread.{Unread}
use Rattle.lines.specs.declared.Unread.TheVariants.{NoDigit, TooLarge}

-- a word of digits by its value, which is below 2 ^ 32
unfoldable pub number : List ℕ → Result ℕ Unread
number w = cond (nat_lt 0 (length w) && all_ascii_digits w) (cond (nat_lt (digits_value 10 w) (2 ^ 32)) (Ok (digits_value 10 w)) (Err TooLarge)) (Err NoDigit)

-- the first i bytes of s are digits, and n is their value, or 2 ^ 32 where that is larger
abbrev pub FirstDigits : List ℕ → (i n : ℕ) → Type 0
FirstDigits s i n = AllDigits 10 (take i s) × (n ≡ min (digits_value 10 (take i s)) (2 ^ 32))

-- the first word of s is the number n, and the others are those of rest
abbrev pub FirstNumber : (s : List ℕ) (n : ℕ) (rest : List ℕ) → Type 0
FirstNumber s n rest = (w : List ℕ) × (words s ≡ w ∷ words rest) × (number w ≡ Ok n)

-- the first of some words is the number n by f, and the others are left
abbrev pub IsNext : {E : Type 0} → (f : List ℕ → Result ℕ E) → List (List ℕ) → (n : ℕ) → List (List ℕ) → Type 0
IsNext f ws n rest = (w : List ℕ) × (ws ≡ w ∷ rest) × (f w ≡ Ok n)

-- the first of some words, if there is one, is no number
abbrev pub IsNoNumber : List (List ℕ) → Type 0
IsNoNumber ws = (w : List ℕ) (rest : List (List ℕ)) (n : ℕ) → ws ≡ w ∷ rest → number w ≡ Ok n → ⊥
