-- What is written is read again.
use Rattle.std.specs.Prelude.{◌≡◌, ℕ, ◌+◌, ◌<◌, true, List, [], ◌++◌, length, take, Some, None, Ok}
use Rattle.std.specs.List.{list_all}
use Rattle.circuit.specs.Checked.{of}
use Rattle.circuit.specs.Lent.{gate_count, register_count}
use Rattle.circuit.specs.Whole.{Whole}
use Rattle.circuit.specs.declared.circuit.Circuit.{Circuit}
use Rattle.lines.specs.Words.{lines}
use Rattle.text.specs.Meaning.{Drafted, first_circuit}
use Rattle.writing.specs.Written.{written, nameable}

-- a circuit of just these numbers, under its name, that began on line n, and in which no line is miscounted
abbrev pub read_again : (name : List ℕ) (n : ℕ) (gates registers times : List ℕ) → Drafted
read_again name n gates registers times = record { name = name; line = n; gates = gates; registers = registers; times = times; miscount = None }

-- how many lines it has: those of its registers and gates, and three more
abbrev pub line_count : (gates registers times : List ℕ) → ℕ
line_count gates registers times = 3 + register_count registers + gate_count gates

-- WHAT IS WRITTEN IS READ AGAIN: of a whole circuit under a name that could be read, on whichever line its text begins
-- and whatever follows it, the reader gets that name and just its numbers, and what follows is still to be read
abbrev pub WrittenIsRead : Type 0
WrittenIsRead =
    (name gates registers times more : List ℕ) (n : ℕ) → list_all nameable name ≡ true → Whole gates registers times
    → first_circuit n (lines (written name gates registers times ++ more)) ≡ Ok (Some (read_again name n gates registers times, n + line_count gates registers times, lines more))

-- the same of the text t alone that was written of a circuit: nothing is left
abbrev pub IsReadAgain : (name : List ℕ) → Circuit → (t : List ℕ) → Type 0
IsReadAgain name c t = first_circuit 1 (lines t) ≡ Ok (Some (of c (read_again name 1), 1 + of c line_count, []))

-- A TEXT THAT IS CUT SHORT IS NO CIRCUIT: of the first m bytes of a written text, unless no more than its last newline is
-- missing, the reader gets no circuit
abbrev pub CutShort : Type 0
CutShort =
    (name gates registers times : List ℕ) (m n : ℕ) → list_all nameable name ≡ true → Whole gates registers times → m + 1 < length (written name gates registers times)
    → (x : Drafted × ℕ × List (List ℕ)) → first_circuit n (lines (take m (written name gates registers times))) ≡ Ok (Some x) → ⊥

-- NO OTHER NAME IS READ: of any text, a circuit that is read has a name under which it can be written
abbrev pub NamesAreNameable : Type 0
NamesAreNameable =
    (n m : ℕ) (ls rest : List (List ℕ)) (d : Drafted) → first_circuit n ls ≡ Ok (Some (d, m, rest)) → list_all nameable d.name ≡ true
