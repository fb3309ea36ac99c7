-- What is printed of a circuit's name and of its margins.
use Rattle.std.specs.Prelude.{ℕ, List, [], ◌∷◌, ◌++◌, codes, encode_utf8_all}
use Rattle.std.specs.Fmt.{signed_decimal}
use Rattle.slack.specs.declared.worst.Smallest.{Smallest}
use Rattle.text.specs.declared.part.Part.{Part}
use Rattle.text.specs.declared.part.Part.TheVariants.{Gates, Registers, Times}

-- a name, of which each byte is a character, and a colon; nothing where there is no name
abbrev pub titled : (name : List ℕ) → List ℕ
titled [] = []
titled (b ∷ bs) = encode_utf8_all (b ∷ bs) ++ codes ": "

abbrev pub margins : Smallest → List ℕ
margins s = codes "margin " ++ (signed_decimal s.setup.margin ++ (codes " and " ++ signed_decimal s.hold.margin))

-- why a circuit is turned away where a line of this part is miscounted
abbrev pub miscount_words : Part → List ℕ
miscount_words Gates = codes "a gate has 7 numbers"
miscount_words Registers = codes "a register has 3 numbers"
miscount_words Times = codes "a line of times has 5 numbers"
