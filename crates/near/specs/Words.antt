-- What is printed of a ratio.
use Rattle.std.specs.Prelude.{◌≡◌, ℕ, List, ◌++◌, Option, Some, None, codes}
use Rattle.std.specs.Float.{Float, binary64}
use Rattle.ryu.specs.Parse.{parse_float}

-- a ratio in decimal digits that are read back as just this number, or that there is no period
abbrev pub IsWords : Option Float → List ℕ → Type 0
IsWords None t = t ≡ codes "no period"
IsWords (Some x) t = (number : List ℕ) × (parse_float binary64 number ≡ Some x) × (t ≡ codes "smallest setup margin " ++ (number ++ codes " of the period"))
