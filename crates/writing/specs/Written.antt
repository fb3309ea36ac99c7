-- The text of a circuit, as it is written.
use Rattle.std.specs.Prelude.{◌≡◌, ℕ, zero, suc, Bool, true, false, ◌&&◌, List, [], ◌∷◌, ◌++◌, map, codes, Option, Result, String, MatchOption, MatchResult}
use Rattle.std.specs.Borrow.{Bor}
use Rattle.std.specs.Fmt.{decimal}
use Rattle.std.specs.List.{list_all}
use Rattle.std.specs.String.{string_bytes}
use Rattle.circuit.specs.Checked.{of}
use Rattle.circuit.specs.Lent.{gate_count, gate_in, register_count, register_in, period, output_early, output_late, setup, hold}
use Rattle.circuit.specs.declared.circuit.Circuit.{Circuit}
use Rattle.circuit.specs.declared.gate.Gate.{Gate}
use Rattle.circuit.specs.declared.register.Register.{Register}
use Rattle.lines.specs.Words.{plain}
use Rattle.fields.specs.Fields.{name_of}
use Rattle.text.specs.Meaning.{printable}
use Rattle.writing.specs.declared.Unwritten.{Unwritten}
use Rattle.writing.specs.declared.Unwritten.TheVariants.{Name, Memory}

-- words, each after a space, and the newline that ends a line
abbrev pub ended : List (List ℕ) → List ℕ
ended [] = 10 ∷ []
ended (w ∷ ws) = 32 ∷ (w ++ ended ws)

-- a line that begins with a word
abbrev pub line_of : List ℕ → List (List ℕ) → List ℕ
line_of word ws = word ++ ended ws

-- n lines, one after another, of which f k is number k
abbrev pub rows : (f : ℕ → List ℕ) → ℕ → List ℕ
rows f zero = []
rows f (suc n) = rows f n ++ f n

-- the words of a name: an empty one is left out
abbrev pub title_of : List ℕ → List (List ℕ)
title_of [] = []
title_of (b ∷ bs) = (b ∷ bs) ∷ []

-- the five times, and the numbers of a register
abbrev pub time_numbers : List ℕ → List ℕ
time_numbers times = period times ∷ output_early times ∷ output_late times ∷ setup times ∷ hold times ∷ []

abbrev pub register_numbers : Register → List ℕ
register_numbers r = r.signal ∷ r.early ∷ r.late ∷ []

-- the seven words of a gate: the table is written by its name
abbrev pub gate_words : Gate → List (List ℕ)
gate_words g = decimal g.one ∷ decimal g.two ∷ name_of g.table ∷ map decimal (g.least_one ∷ g.greatest_one ∷ g.least_two ∷ g.greatest_two ∷ [])

abbrev pub times_line : List ℕ → List ℕ
times_line times = line_of (codes "times") (map decimal (time_numbers times))

abbrev pub register_line : Register → List ℕ
register_line r = line_of (codes "register") (map decimal (register_numbers r))

abbrev pub gate_line : Gate → List ℕ
gate_line g = line_of (codes "gate") (gate_words g)

-- the line that ends a circuit
abbrev pub end_line : List ℕ
end_line = line_of (codes "end") []

-- the text of a circuit: its name and times, its registers and its gates in order, and its end
abbrev pub written : (name gates registers times : List ℕ) → List ℕ
written name gates registers times =
    line_of (codes "circuit") (title_of name)
    ++ (times_line times
    ++ (rows (λ r. register_line (register_in registers r)) (register_count registers)
    ++ (rows (λ k. gate_line (gate_in gates k)) (gate_count gates)
    ++ end_line)))

-- a byte that a name may have where it is written: printable, and no number sign, with which a comment begins
abbrev pub nameable : ℕ → Bool
nameable b = printable b && plain b

-- a name, or None where it could not be read again
abbrev pub IsTitled : (name : List ℕ) → Option (Bor (List ℕ)) → Type 0
IsTitled name r = MatchOption r (list_all nameable name ≡ false) (λ s. (list_all nameable name ≡ true) × (s.now ≡ name))

-- why a circuit is not written under a name
abbrev pub NotWritten : (name : List ℕ) → Unwritten → Type 0
NotWritten name Name = list_all nameable name ≡ false
NotWritten name Memory = list_all nameable name ≡ true

-- the answer r to a circuit that is to be written under a name
abbrev pub IsWritten : (name : List ℕ) → Circuit → {Z : Type 0} → Result (String Z) Unwritten → Type 0
IsWritten name c r = MatchResult r (λ text. (list_all nameable name ≡ true) × (string_bytes text ≡ of c (written name))) (NotWritten name)
