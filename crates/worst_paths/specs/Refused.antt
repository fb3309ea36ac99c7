-- For how many paths a list is refused.
use Rattle.std.specs.Prelude.{◌≡◌, ℕ, ◌<◌, ◌≤◌, Option, Some, None}
use Rattle.worst_paths.specs.declared.error.WorstError.{WorstError}
use Rattle.worst_paths.specs.declared.error.WorstError.TheVariants.{OutOfRange, Memory}

-- from 1 to 100 paths are listed
abbrev pub IsListable : ℕ → Type 0
IsListable k = (0 < k) × (k ≤ 100)

-- other numbers are refused, and no others; else there was no memory
abbrev pub IsRefused : ℕ → WorstError → Type 0
IsRefused k (OutOfRange n) = (n ≡ k) × (IsListable k → ⊥)
IsRefused k Memory = IsListable k

-- the refusal's number and place
abbrev pub refusal_of : WorstError → Option (ℕ × ℕ)
refusal_of (OutOfRange n) = Some (12, n)
refusal_of Memory = None
