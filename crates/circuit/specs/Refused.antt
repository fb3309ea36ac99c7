-- Why numbers that are lent are turned away: by a number of a fixed list, at a place, and by the first that applies.
use Rattle.std.specs.Prelude.{◌≡◌, ℕ, ◌%◌, ◌<◌, ◌≤◌, ◌⊎◌, List, length, Some, None, Option}
use Rattle.circuit.specs.Lent.{gate_count, register_count, signal_count}
use Rattle.circuit.specs.Whole.{Whole, Shaped, SomeRegisters, FewGates, Small, Placed, Ranged, Tied, OutputOrdered}
use Rattle.circuit.specs.declared.refusal.Refusal.{Refusal}
use Rattle.circuit.specs.declared.refusal.Refusal.TheVariants.{GateNumbers, RegisterNumbers, TimeNumbers, RegisterCount, GateCount, TooLarge, BadGate, BadDelay, BadRegister, BadOutput, NoSignal, NoRoom, OutOfBounds, NoPeriod, NoMoment}

-- the number of each case
abbrev pub number_of : Refusal → ℕ
number_of GateNumbers = 1
number_of RegisterNumbers = 1
number_of TimeNumbers = 1
number_of RegisterCount = 2
number_of GateCount = 2
number_of (TooLarge p) = 3
number_of (BadGate k) = 4
number_of (BadDelay k) = 5
number_of (BadRegister r) = 6
number_of BadOutput = 7
number_of (NoSignal s) = 11
number_of (NoRoom n) = 8
number_of (OutOfBounds line) = 9
number_of NoPeriod = 10
number_of NoMoment = 10

-- its place, counted from 0; of room that is too short the length that is needed
abbrev pub place_of : Refusal → ℕ
place_of GateNumbers = 0
place_of RegisterNumbers = 1
place_of TimeNumbers = 2
place_of RegisterCount = 0
place_of GateCount = 1
place_of (TooLarge p) = p
place_of (BadGate k) = k
place_of (BadDelay k) = k
place_of (BadRegister r) = r
place_of BadOutput = 0
place_of (NoSignal s) = s
place_of (NoRoom n) = n
place_of (OutOfBounds line) = line
place_of NoPeriod = 0
place_of NoMoment = 1

module _ (gates registers times : List ℕ) where
  -- that a case applies to the numbers of a circuit
  abbrev pub Applies : Refusal → Type 0
  Applies GateNumbers = length gates % 7 ≡ 0 → ⊥
  Applies RegisterNumbers = length registers % 3 ≡ 0 → ⊥
  Applies TimeNumbers = length times ≡ 5 → ⊥
  Applies RegisterCount = SomeRegisters registers → ⊥
  Applies GateCount = FewGates gates → ⊥
  Applies (TooLarge p) = Small gates registers times p → ⊥
  Applies (BadGate k) = (k < gate_count gates) × (Placed (register_count registers) gates k → ⊥)
  Applies (BadDelay k) = (k < gate_count gates) × (Ranged gates k → ⊥)
  Applies (BadRegister r) = (r < register_count registers) × (Tied (signal_count gates registers) registers r → ⊥)
  Applies BadOutput = OutputOrdered times → ⊥
  Applies (NoSignal s) = ⊥
  Applies (NoRoom n) = ⊥
  Applies (OutOfBounds line) = ⊥
  Applies NoPeriod = ⊥
  Applies NoMoment = ⊥

-- P holds of every number below n; or i is the first of which it does not
abbrev pub AllOrFirst : (ℕ → Type 0) → ℕ → Option ℕ → Type 0
AllOrFirst P n None = (q : ℕ) → q < n → P q
AllOrFirst P n (Some i) = (i < n) × (P i → ⊥) × ((q : ℕ) → q < i → P q)

-- e comes before f in the list, or at the same number at an earlier place, or is at the same place
abbrev pub NoLater : Refusal → Refusal → Type 0
NoLater e f = (number_of e < number_of f) ⊎ ((number_of e ≡ number_of f) × (place_of e ≤ place_of f))

-- e applies, and no case that applies comes before it
pub record FirstRefusal (gates registers times : List ℕ) (e : Refusal) : Type 0 where
  pub applies : Applies gates registers times e
  pub first : (f : Refusal) → Applies gates registers times f → NoLater e f

-- every condition that goes with a number up to n is met
pub record MetUpTo (gates registers times : List ℕ) (n : ℕ) : Type 0 where
  pub shaped : 1 ≤ n → Shaped gates registers times
  pub registers_some : 2 ≤ n → SomeRegisters registers
  pub gates_few : 2 ≤ n → FewGates gates
  pub small : 3 ≤ n → (p : ℕ) → Small gates registers times p
  pub placed : 4 ≤ n → (k : ℕ) → k < gate_count gates → Placed (register_count registers) gates k
  pub ranged : 5 ≤ n → (k : ℕ) → k < gate_count gates → Ranged gates k
  pub tied : 6 ≤ n → (r : ℕ) → r < register_count registers → Tied (signal_count gates registers) registers r
  pub ordered : 7 ≤ n → OutputOrdered times

-- what is turned away is not whole, and the first reason is one and the same
abbrev pub RefusalsAreExact : Type 0
RefusalsAreExact =
    (gates registers times : List ℕ) →
    ((e : Refusal) → Applies gates registers times e → Whole gates registers times → ⊥)
    × ((e f : Refusal) → FirstRefusal gates registers times e → FirstRefusal gates registers times f → e ≡ f)
