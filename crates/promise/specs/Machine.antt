-- A clocked machine, and when it is passed.
use Rattle.std.specs.Prelude.{◌≡◌, ℕ, ◌+◌, ◌<◌, ◌≤◌, Bool, List}
use Rattle.circuit.specs.Circuit.{Circuit, signals, Sound}
use Rattle.circuit.specs.Lent.{register_count, drawn, takes, early, late, period, output_early, output_late, setup, hold}
use Rattle.drawing.specs.Drawing.{held}
use Rattle.arrival.specs.Arrival.{latest, earliest}

-- registers around a circuit: register r is source r of the circuit, and takes a signal. In each cycle its clock comes between its early
-- and its late time, and its output changes between the earliest and the latest output time after that
pub record Machine : Type 0 where
  pub registers : ℕ
  pub circuit : Circuit
  pub takes : ℕ → ℕ
  pub early : ℕ → ℕ
  pub late : ℕ → ℕ
  pub period : ℕ
  pub output_early : ℕ
  pub output_late : ℕ
  pub setup : ℕ
  pub hold : ℕ

-- the machine of numbers that are lent
abbrev pub machine_in : (gates registers times : List ℕ) → Machine
machine_in g r t = record {
  registers = register_count r;
  circuit = drawn g r;
  takes = takes r;
  early = early r;
  late = late r;
  period = period t;
  output_early = output_early t;
  output_late = output_late t;
  setup = setup t;
  hold = hold t;
}

-- from when on in a cycle source i shows the cycle's bit, and until when in the next cycle it still does
abbrev pub since : Machine → ℕ → ℕ
since m i = m.late i + m.output_late

abbrev pub still_for : Machine → ℕ → ℕ
still_for m i = m.early i + m.output_early

-- the latest and the earliest time of a signal, from a cycle's beginning
abbrev pub last_change : Machine → ℕ → ℕ
last_change m = latest m.circuit (since m)

abbrev pub first_change : Machine → ℕ → ℕ
first_change m = earliest m.circuit (still_for m)

-- register r's signal is there the setup time before the earliest clock of the next cycle
abbrev pub SetupKept : Machine → ℕ → Type 0
SetupKept m r = last_change m (m.takes r) + m.setup ≤ m.period + m.early r

-- and does not change until after the hold time after the latest clock
abbrev pub HoldKept : Machine → ℕ → Type 0
HoldKept m r = m.late r + m.hold < first_change m (m.takes r)

-- a machine is well formed: its registers are its circuit's sources, and all bounds are in order
pub record Formed (m : Machine) : Type 0 where
  pub sources : m.circuit.inputs ≡ m.registers
  pub sound : Sound m.circuit
  pub taken : (r : ℕ) → r < m.registers → m.takes r < signals m.circuit
  pub clocked : (r : ℕ) → r < m.registers → m.early r ≤ m.late r
  pub output_ordered : m.output_early ≤ m.output_late

-- A MACHINE IS PASSED if it is well formed and both sums are right at every register
pub record Passed (m : Machine) : Type 0 where
  pub formed : Formed m
  pub setup_kept : (r : ℕ) → r < m.registers → SetupKept m r
  pub hold_kept : (r : ℕ) → r < m.registers → HoldKept m r

-- what the registers hold in each cycle when nothing takes time
abbrev pub drawing : Machine → (ℕ → Bool) → ℕ → ℕ → Bool
drawing m start = held m.circuit m.takes start
