-- A clocked circuit as it is lent: seven numbers a gate, three a register, five for all.
use Rattle.std.specs.Prelude.{ℕ, ◌+◌, ◌*◌, ◌/◌, List, map, length, slice_index}
use Rattle.std.specs.List.{range_with_len}
use Rattle.circuit.specs.declared.gate.Gate.{Gate}
use Rattle.circuit.specs.declared.register.Register.{Register}
use Rattle.circuit.specs.Circuit.{Circuit}

-- how many gates and registers so many numbers are
abbrev pub gate_count : List ℕ → ℕ
gate_count gates = length gates / 7

abbrev pub register_count : List ℕ → ℕ
register_count registers = length registers / 3

-- how many signals gates and registers are
abbrev pub signal_count : List ℕ → List ℕ → ℕ
signal_count gates registers = register_count registers + gate_count gates

-- seven numbers as a gate, and three as a register
abbrev pub gate_of : List ℕ → Gate
gate_of x = record { one = slice_index x 0; two = slice_index x 1; table = slice_index x 2; least_one = slice_index x 3; greatest_one = slice_index x 4; least_two = slice_index x 5; greatest_two = slice_index x 6 }

abbrev pub register_of : List ℕ → Register
register_of x = record { signal = slice_index x 0; early = slice_index x 1; late = slice_index x 2 }

-- a gate's inputs, its table, least and greatest delay of the first input, least and greatest of the second
abbrev pub gate_in : List ℕ → ℕ → Gate
gate_in xs k = record { one = slice_index xs (7 * k); two = slice_index xs (7 * k + 1); table = slice_index xs (7 * k + 2); least_one = slice_index xs (7 * k + 3); greatest_one = slice_index xs (7 * k + 4); least_two = slice_index xs (7 * k + 5); greatest_two = slice_index xs (7 * k + 6) }

unfoldable pub gates_in : List ℕ → List Gate
gates_in xs = map (gate_in xs) (range_with_len 0 (gate_count xs))

-- the gates over n sources
abbrev pub circuit_in : ℕ → List ℕ → Circuit
circuit_in n gates = record { inputs = n; gates = gates_in gates }

-- the gates over the registers
abbrev pub drawn : List ℕ → List ℕ → Circuit
drawn gates registers = circuit_in (register_count registers) gates

-- a register's three numbers: the signal that it takes, and its clock's early and late time
abbrev pub takes : List ℕ → ℕ → ℕ
takes registers r = slice_index registers (3 * r)

abbrev pub early : List ℕ → ℕ → ℕ
early registers r = slice_index registers (3 * r + 1)

abbrev pub late : List ℕ → ℕ → ℕ
late registers r = slice_index registers (3 * r + 2)

abbrev pub register_in : List ℕ → ℕ → Register
register_in xs r = record { signal = takes xs r; early = early xs r; late = late xs r }

-- the five times
abbrev pub period : List ℕ → ℕ
period times = slice_index times 0

abbrev pub output_early : List ℕ → ℕ
output_early times = slice_index times 1

abbrev pub output_late : List ℕ → ℕ
output_late times = slice_index times 2

abbrev pub setup : List ℕ → ℕ
setup times = slice_index times 3

abbrev pub hold : List ℕ → ℕ
hold times = slice_index times 4
