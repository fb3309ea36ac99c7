-- What is told of a step of a path.
use Rattle.std.specs.Prelude.{◌≡◌, ℕ, ◌+◌, ◌^◌, ◌<◌, Bool}
use Rattle.circuit.specs.Checked.{of, gates_of, registers_of}
use Rattle.circuit.specs.Lent.{gate_in}
use Rattle.circuit.specs.declared.circuit.Circuit as checked
use Rattle.arrival.specs.Arrival.{delay}
use Rattle.arrival.specs.Lent.{time_of}
use Rattle.arrival.specs.declared.edge.Edge.{Edge}
use Rattle.path_table.specs.declared.shown.Step.{Step}

-- the signal is that of gate k
abbrev pub IsGate : checked.Circuit → (signal k : ℕ) → Type 0
IsGate c signal k = (signal ≡ registers_of c + k) × (k < gates_of c)

-- the signal is a gate's, and the step has that gate's table and its delay at the input that it comes in by, and the time of
-- its signal
abbrev pub IsStep : Edge → checked.Circuit → (signal : ℕ) → (second : Bool) → Step → Type 0
IsStep e c signal second s =
    (s.signal ≡ signal) × (s.second ≡ second)
    × ((k : ℕ) × IsGate c signal k × (s.delay ≡ delay e second (gate_in c.gates.now k)) × (s.table ≡ (gate_in c.gates.now k).table))
    × (s.time ≡ of c (time_of e) signal)

-- the step goes through gate k by one of its inputs, and has its signal, its table, the delay at that input, and the time
-- before that delay and the delay together, if it is a time that any path can have
abbrev pub IsStepOn : Edge → checked.Circuit → (k : ℕ) → (second : Bool) → (before : ℕ) → Step → Type 0
IsStepOn e c k second before s =
    (s.second ≡ second) × IsGate c s.signal k
    × (s.delay ≡ delay e second (gate_in c.gates.now k)) × (s.table ≡ (gate_in c.gates.now k).table)
    × (before < 2 ^ 63 → s.time ≡ before + s.delay)
