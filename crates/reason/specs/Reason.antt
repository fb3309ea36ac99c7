-- What exactly is wrong with numbers that are turned away.
use Rattle.std.specs.Prelude.{◌≡◌, ℕ, ◌+◌, ◌*◌, ◌%◌, ◌<◌, ◌≤◌, List, length, ◌≢◌, slice_index}
use Rattle.circuit.specs.Lent.{gate_count, register_count, signal_count, gate_in, takes, early, late, output_early, output_late}
use Rattle.circuit.specs.declared.refusal.Refusal.{Refusal}
use Rattle.circuit.specs.declared.refusal.Refusal.TheVariants as refusal
use Rattle.detail.specs.declared.column.Input.TheVariants.{First, Second}
use Rattle.detail.specs.declared.column.GateColumn.{GateColumn}
use Rattle.detail.specs.declared.column.GateColumn.TheVariants.{Input, Table, Least, Greatest}
use Rattle.detail.specs.declared.column.RegisterColumn.{RegisterColumn}
use Rattle.detail.specs.declared.column.RegisterColumn.TheVariants.{Signal, Early, Late}
use Rattle.detail.specs.declared.column.TimesColumn.{TimesColumn}
use Rattle.detail.specs.declared.column.TimesColumn.TheVariants.{Period, Earliest, Latest, Setup, Hold}
use Rattle.detail.specs.declared.GateDetail.{GateDetail}
use Rattle.detail.specs.declared.GateDetail.TheVariants as gate
use Rattle.detail.specs.declared.RegisterDetail.{RegisterDetail}
use Rattle.detail.specs.declared.RegisterDetail.TheVariants as register
use Rattle.detail.specs.declared.TimesDetail.{TimesDetail}
use Rattle.detail.specs.declared.TimesDetail.TheVariants as time
use Rattle.detail.specs.declared.Detail.{Detail}
use Rattle.detail.specs.declared.Detail.TheVariants.{GateNumbers, RegisterNumbers, TimeNumbers, Registers, Gates, Gate, Register, Times}

-- where each number of a gate, of a register and of the times stands among them
abbrev pub gate_place : GateColumn → ℕ
gate_place (Input First) = 0
gate_place (Input Second) = 1
gate_place Table = 2
gate_place (Least First) = 3
gate_place (Greatest First) = 4
gate_place (Least Second) = 5
gate_place (Greatest Second) = 6

abbrev pub register_place : RegisterColumn → ℕ
register_place Signal = 0
register_place Early = 1
register_place Late = 2

abbrev pub times_place : TimesColumn → ℕ
times_place Period = 0
times_place Earliest = 1
times_place Latest = 2
times_place Setup = 3
times_place Hold = 4

-- signal s comes before gate k
abbrev pub Before : (registers : List ℕ) (k s : ℕ) → Type 0
Before registers k s = s < register_count registers + k

-- a detail of gate k is true of the numbers lent, and is one of the refusal e; of several that are, it is the first: inputs before the table,
-- and the first input before the second
abbrev pub TrueOfGate : (gates registers : List ℕ) (e : Refusal) (k : ℕ) → GateDetail → Type 0
TrueOfGate gates registers e k (gate.Large x) = (e ≡ refusal.TooLarge (7 * k + gate_place x.column)) × (k < gate_count gates) × (x.value ≡ slice_index gates (7 * k + gate_place x.column)) × (1000000 < x.value)
TrueOfGate gates registers e k (gate.NotBefore First s) = (e ≡ refusal.BadGate k) × (s ≡ (gate_in gates k).one) × (register_count registers + k ≤ s)
TrueOfGate gates registers e k (gate.NotBefore Second s) = (e ≡ refusal.BadGate k) × (s ≡ (gate_in gates k).two) × (register_count registers + k ≤ s) × Before registers k (gate_in gates k).one
TrueOfGate gates registers e k (gate.Table t) = (e ≡ refusal.BadGate k) × (t ≡ (gate_in gates k).table) × (15 < t) × Before registers k (gate_in gates k).one × Before registers k (gate_in gates k).two
TrueOfGate gates registers e k (gate.Delay First a b) = (e ≡ refusal.BadDelay k) × (a ≡ (gate_in gates k).least_one) × (b ≡ (gate_in gates k).greatest_one) × (b < a)
TrueOfGate gates registers e k (gate.Delay Second a b) = (e ≡ refusal.BadDelay k) × (a ≡ (gate_in gates k).least_two) × (b ≡ (gate_in gates k).greatest_two) × (b < a)
    × ((gate_in gates k).least_one ≤ (gate_in gates k).greatest_one)

-- the same of register r: its signal before its times
abbrev pub TrueOfRegister : (gates registers : List ℕ) (e : Refusal) (r : ℕ) → RegisterDetail → Type 0
TrueOfRegister gates registers e r (register.Large x) = (e ≡ refusal.TooLarge (length gates + (3 * r + register_place x.column))) × (r < register_count registers) × (x.value ≡ slice_index registers (3 * r + register_place x.column)) × (1000000 < x.value)
TrueOfRegister gates registers e r (register.Signal s) = (e ≡ refusal.BadRegister r) × (s ≡ takes registers r) × (signal_count gates registers ≤ s)
TrueOfRegister gates registers e r (register.Clock a b) = (e ≡ refusal.BadRegister r) × (a ≡ early registers r) × (b ≡ late registers r) × (b < a) × (takes registers r < signal_count gates registers)

-- the same of the times
abbrev pub TrueOfTimes : (gates registers times : List ℕ) (e : Refusal) → TimesDetail → Type 0
TrueOfTimes gates registers times e (time.Large x) = (e ≡ refusal.TooLarge (length gates + length registers + times_place x.column)) × (times_place x.column < length times) × (x.value ≡ slice_index times (times_place x.column)) × (1000000 < x.value)
TrueOfTimes gates registers times e (time.Output a b) = (e ≡ refusal.BadOutput) × (a ≡ output_early times) × (b ≡ output_late times) × (b < a)

-- a detail is true of the numbers lent, and is one of the refusal e
abbrev pub TrueOf : (gates registers times : List ℕ) (e : Refusal) → Detail → Type 0
TrueOf gates registers times e (GateNumbers n) = (e ≡ refusal.GateNumbers) × (n ≡ length gates) × (n % 7 ≢ 0)
TrueOf gates registers times e (RegisterNumbers n) = (e ≡ refusal.RegisterNumbers) × (n ≡ length registers) × (n % 3 ≢ 0)
TrueOf gates registers times e (TimeNumbers n) = (e ≡ refusal.TimeNumbers) × (n ≡ length times) × (n ≢ 5)
TrueOf gates registers times e (Registers n) = (e ≡ refusal.RegisterCount) × (n ≡ register_count registers)
TrueOf gates registers times e (Gates n) = (e ≡ refusal.GateCount) × (n ≡ gate_count gates)
TrueOf gates registers times e (Gate k x) = TrueOfGate gates registers e k x
TrueOf gates registers times e (Register r x) = TrueOfRegister gates registers e r x
TrueOf gates registers times e (Times x) = TrueOfTimes gates registers times e x
