-- What passing promises.
use Rattle.std.specs.Prelude.{◌≡◌, ℕ, suc, ◌+◌, ◌-◌, ◌*◌, ◌<◌, ◌≤◌, Bool, length}
use Rattle.circuit.specs.Gate.{output}
use Rattle.circuit.specs.Circuit.{Circuit, gate, signals}
use Rattle.drawing.specs.Drawing.{ideal}
use Rattle.arrival.specs.Arrival.{CircuitWithin}
use Rattle.arrival.specs.Window.{Wave}
use Rattle.promise.specs.Machine.{Machine, Passed, Formed, drawing, last_change, first_change}
use Rattle.promise.specs.Run.{Clocks, Run}

-- every run of a machine, from any contents and for any number of cycles, holds the drawing's bits
abbrev pub AsDrawn : Machine → Type 0
AsDrawn m =
    (start : ℕ → Bool) (clock : ℕ → ℕ → ℕ) (holds : ℕ → ℕ → Bool) (w : ℕ → Wave) → Run m start clock holds w →
    (n r : ℕ) → r < m.registers → holds n r ≡ drawing m start n r

-- THE PROMISE. After every cycle of every run of a passed machine every register holds the drawing's bit
abbrev pub Promise : Type 0
Promise = (m : Machine) → Passed m → AsDrawn m

-- in each cycle every signal of a passed machine is the drawing's bit, from the cycle's beginning and its latest time on until before the next
-- cycle's beginning and its earliest time
abbrev pub InWindow : Type 0
InWindow =
    (m : Machine) (start : ℕ → Bool) (clock : ℕ → ℕ → ℕ) (holds : ℕ → ℕ → Bool) (w : ℕ → Wave) → Passed m → Run m start clock holds w →
    (n k t : ℕ) → k < signals m.circuit → n * m.period + last_change m k ≤ t → t < suc n * m.period + first_change m k →
    w k t ≡ ideal m.circuit (drawing m start n) k

-- the new machine is the old one with bounds that lie within the old ones, in order themselves, and a period that is no shorter
pub record Within (new old : Machine) : Type 0 where
  pub registers_same : new.registers ≡ old.registers
  pub circuit_within : CircuitWithin new.circuit old.circuit
  pub formed : Formed new
  pub takes_same : (r : ℕ) → r < old.registers → new.takes r ≡ old.takes r
  pub clock_within : (r : ℕ) → r < old.registers → (old.early r ≤ new.early r) × (new.late r ≤ old.late r)
  pub output_within : (old.output_early ≤ new.output_early) × (new.output_late ≤ old.output_late)
  pub setup_within : new.setup ≤ old.setup
  pub hold_within : new.hold ≤ old.hold
  pub period_within : old.period ≤ new.period

-- what is passed is so with bounds that lie within the old ones
abbrev pub Narrower : Type 0
Narrower = (new old : Machine) → Within new old → Passed old → Passed new

abbrev pub with_period : Machine → ℕ → Machine
with_period m p = record {
  registers = m.registers;
  circuit = m.circuit;
  takes = m.takes;
  early = m.early;
  late = m.late;
  period = p;
  output_early = m.output_early;
  output_late = m.output_late;
  setup = m.setup;
  hold = m.hold;
}

-- and with every longer period
abbrev pub Slower : Type 0
Slower = (m : Machine) (p : ℕ) → m.period ≤ p → Passed m → Passed (with_period m p)

-- delays for each gate, input and moment that lie within the bounds
pub record Delays (c : Circuit) (one two : ℕ → ℕ → ℕ) : Type 0 where
  pub one_within : (k t : ℕ) → k < length c.gates → ((gate c k).least_one ≤ one k t) × (one k t ≤ (gate c k).greatest_one)
  pub two_within : (k t : ℕ) → k < length c.gates → ((gate c k).least_two ≤ two k t) × (two k t ≤ (gate c k).greatest_two)

-- waves in which each gate follows its inputs by just these delays; at moments before its greatest delays have passed nothing is said of it
abbrev pub MovesBy : Circuit → (one two : ℕ → ℕ → ℕ) → (ℕ → Wave) → Type 0
MovesBy c one two w =
    (k t : ℕ) → k < length c.gates → (gate c k).greatest_one ≤ t → (gate c k).greatest_two ≤ t →
    w (c.inputs + k) t ≡ output (gate c k).table (w (gate c k).one (t - one k t)) (w (gate c k).two (t - two k t))

-- a passed machine can go, from any contents, by any delays and any clocks within their bounds: what is promised is not promised of nothing
abbrev pub CanGo : Type 0
CanGo =
    (m : Machine) (start : ℕ → Bool) (one two : ℕ → ℕ → ℕ) (clock : ℕ → ℕ → ℕ) → Passed m → Delays m.circuit one two → Clocks m clock →
    (holds : ℕ → ℕ → Bool) × (w : ℕ → Wave) × Run m start clock holds w × MovesBy m.circuit one two w
