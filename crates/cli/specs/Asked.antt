-- What a command line asks for, and what is printed in its place.
use Rattle.std.specs.Prelude.{◌≡◌, ◌++◌, ℕ, true, List, ⊤, codes, cond, string_bytes}
use Rattle.cli.specs.declared.told.Asked.{Asked}
use Rattle.cli.specs.declared.told.Asked.TheVariants.{Do, Tell}
use Rattle.cli.specs.declared.told.Told.{Told}

-- P of what the program is to do, if it is to do something
abbrev pub IfDo : {A : Type 0} → Asked A → (A → Type 0) → Type 0
IfDo (Do options) P = P options
IfDo (Tell told) P = ⊤

-- P of the text to print in its place, if there is one
abbrev pub IfTell : {A : Type 0} → Asked A → (Told → Type 0) → Type 0
IfTell (Do options) P = ⊤
IfTell (Tell told) P = P told

-- the status is 2 for what is wrong with a command line, which begins with the program's name and a colon; else it is 0
abbrev pub IsToldBy : (name : List ℕ) → Told → Type 0
IsToldBy name told =
    (told.status ≡ cond told.error 2 0)
    × (told.error ≡ true → (message : List ℕ) × (string_bytes told.text ≡ name ++ codes ": " ++ message))
