-- When the numbers that are lent are a circuit.
use Rattle.std.specs.Prelude.{◌≡◌, ℕ, ◌+◌, ◌%◌, ◌<◌, ◌≤◌, List, ◌++◌, length, slice_index}
use Rattle.circuit.specs.Lent.{gate_count, register_count, signal_count, gate_in, takes, early, late, output_early, output_late}

-- seven numbers for each gate, three for each register, five for all
abbrev pub Shaped : (gates registers times : List ℕ) → Type 0
Shaped gates registers times = (length gates % 7 ≡ 0) × (length registers % 3 ≡ 0) × (length times ≡ 5)

-- 1 to 1,024 registers
abbrev pub SomeRegisters : List ℕ → Type 0
SomeRegisters registers = (1 ≤ register_count registers) × (register_count registers ≤ 1024)

-- at most 16,384 gates
abbrev pub FewGates : List ℕ → Type 0
FewGates gates = gate_count gates ≤ 16384

-- the number at index p, counting through the gates, then the registers, then the times, is at most 1,000,000
abbrev pub Small : (gates registers times : List ℕ) → ℕ → Type 0
Small gates registers times p = slice_index (gates ++ (registers ++ times)) p ≤ 1000000

-- gate k over n sources has its inputs before it, and a table of four bits
abbrev pub Placed : ℕ → List ℕ → ℕ → Type 0
Placed n gates k = ((gate_in gates k).one < n + k) × ((gate_in gates k).two < n + k) × ((gate_in gates k).table ≤ 15)

-- no least delay of gate k is above its greatest
abbrev pub Ranged : List ℕ → ℕ → Type 0
Ranged gates k = ((gate_in gates k).least_one ≤ (gate_in gates k).greatest_one) × ((gate_in gates k).least_two ≤ (gate_in gates k).greatest_two)

-- register r takes one of n signals, and its early time is not above its late one
abbrev pub Tied : ℕ → List ℕ → ℕ → Type 0
Tied n registers r = (takes registers r < n) × (early registers r ≤ late registers r)

-- the earliest output time is not above the latest
abbrev pub OutputOrdered : List ℕ → Type 0
OutputOrdered times = output_early times ≤ output_late times

-- the numbers lent are a circuit
pub record Whole (gates registers times : List ℕ) : Type 0 where
  pub shaped : Shaped gates registers times
  pub registers_some : SomeRegisters registers
  pub gates_few : FewGates gates
  pub small : (p : ℕ) → Small gates registers times p
  pub placed : (k : ℕ) → k < gate_count gates → Placed (register_count registers) gates k
  pub ranged : (k : ℕ) → k < gate_count gates → Ranged gates k
  pub tied : (r : ℕ) → r < register_count registers → Tied (signal_count gates registers) registers r
  pub ordered : OutputOrdered times
