-- What passing a board promises.
use Rattle.std.specs.Prelude.{◌≡◌, ℕ, suc, ◌+◌, ◌*◌, ◌<◌, ◌≤◌, ◌↔◌, Bool, true}
use Rattle.circuit.specs.Circuit.{signals}
use Rattle.drawing.specs.Drawing.{ideal}
use Rattle.arrival.specs.Arrival.{CircuitWithin}
use Rattle.arrival.specs.Window.{Wave}
use Rattle.promise.specs.Machine as base
use Rattle.promise.specs.Run as base_run
use Rattle.promise.specs.Promise.{Delays, MovesBy}
use Rattle.board.specs.Board.{Board, Formed, Passed, reference, last_change, first_change}
use Rattle.board.specs.Run.{Clocks, Run, Trace}

-- every run, from any bits, with any bits from outside and for any number of cycles, holds the reference's bits
abbrev pub MatchesReference : Board → Type 0
MatchesReference m =
    (x : Trace) → Run m x → (n r : ℕ) → r < m.registers → x.holds n r ≡ reference m x.start x.outside n r

-- THE PROMISE. After every cycle of every run of a passed board every register holds the reference's bit
abbrev pub Promise : Type 0
Promise = (m : Board) → Passed m → MatchesReference m

-- in each cycle every signal of a passed board shows the reference's bit in its window
abbrev pub InWindow : Type 0
InWindow =
    (m : Board) (x : Trace) → Passed m → Run m x →
    (n k t : ℕ) → k < signals m.circuit → last_change m n k ≤ t → t < first_change m n k →
    x.waves k t ≡ ideal m.circuit (reference m x.start x.outside n) k

-- a machine as a board: its registers take at the end of every cycle, and it has no inputs from outside
abbrev pub board_of : base.Machine → Board
board_of m = record {
  registers = m.registers;
  circuit = m.circuit;
  takes = m.takes;
  takes_at = λ r n. true;
  early = m.early;
  late = m.late;
  input_early = λ i. 0;
  input_late = λ i. 0;
  period = m.period;
  output_early = m.output_early;
  output_late = m.output_late;
  setup = m.setup;
  hold = m.hold;
}

-- a well formed machine is a well formed board, is passed exactly if that board is, and has just the runs, the
-- reference and the windows that it has
pub record AgreesWithBoard (m : base.Machine) : Type 0 where
  pub formed : base.Formed m → Formed (board_of m)
  pub passed : base.Formed m → base.Passed m ↔ Passed (board_of m)
  pub runs : base.Formed m → (x : Trace) → base_run.Run m x.start x.clock x.holds x.waves ↔ Run (board_of m) x
  pub reference_is : base.Formed m → (start : ℕ → Bool) (outside : ℕ → ℕ → Bool) (n r : ℕ) → r < m.registers →
      reference (board_of m) start outside n r ≡ base.drawing m start n r
  pub windows : base.Formed m → (n k : ℕ) → k < signals m.circuit →
      (last_change (board_of m) n k ≡ n * m.period + base.last_change m k)
      × (first_change (board_of m) n k ≡ suc n * m.period + base.first_change m k)

abbrev pub BaseIsBoard : Type 0
BaseIsBoard = (m : base.Machine) → AgreesWithBoard m

-- a board whose registers take by another schedule
abbrev pub with_schedule : Board → ((r n : ℕ) → Bool) → Board
with_schedule m takes_at = record m { takes_at = takes_at }

-- what is passed is so when registers take in fewer cycles
abbrev pub FewerTakes : Type 0
FewerTakes =
    (m : Board) (more : (r n : ℕ) → Bool) → ((r n : ℕ) → m.takes_at r n ≡ true → more r n ≡ true) →
    Passed (with_schedule m more) → Passed m

-- what is passed with registers that take in every cycle, so that each sum counts to the first clock after the launch,
-- is so with any schedule
abbrev pub CountedToFirst : Type 0
CountedToFirst = (m : Board) → Passed (with_schedule m (λ r n. true)) → Passed m

-- the new board is the old one with bounds that lie within the old ones, in order themselves, and a period that is no
-- shorter
pub record Within (new old : Board) : Type 0 where
  pub registers_same : new.registers ≡ old.registers
  pub circuit_within : CircuitWithin new.circuit old.circuit
  pub formed : Formed new
  pub takes_same : (r : ℕ) → r < old.registers → new.takes r ≡ old.takes r
  pub schedule_same : (r n : ℕ) → r < old.registers → new.takes_at r n ≡ old.takes_at r n
  pub clock_within : (r : ℕ) → r < old.registers → (old.early r ≤ new.early r) × (new.late r ≤ old.late r)
  pub inputs_within : (i : ℕ) → old.registers ≤ i → i < old.circuit.inputs →
      (old.input_early i ≤ new.input_early i) × (new.input_late i ≤ old.input_late i)
  pub output_within : (old.output_early ≤ new.output_early) × (new.output_late ≤ old.output_late)
  pub setup_within : new.setup ≤ old.setup
  pub hold_within : new.hold ≤ old.hold
  pub period_within : old.period ≤ new.period

-- what is passed is so with bounds within the old ones
abbrev pub Narrower : Type 0
Narrower = (new old : Board) → Within new old → Passed old → Passed new

-- a board with another period
abbrev pub with_period : Board → (p : ℕ) → Board
with_period m p = record m { period = p }

-- and with every longer period
abbrev pub Slower : Type 0
Slower = (m : Board) (p : ℕ) → m.period ≤ p → Passed m → Passed (with_period m p)

-- clocks of one register come in order
abbrev pub InOrder : Board → (clock : (n r : ℕ) → ℕ) → Type 0
InOrder m clock = (n r : ℕ) → r < m.registers → clock n r ≤ clock (suc n) r

-- a passed board can go, from any bits, with any bits from outside, by any delays and any clocks in order within their
-- bounds: what is promised is not promised of nothing
abbrev pub CanGo : Type 0
CanGo =
    (m : Board) (start : ℕ → Bool) (outside : (n i : ℕ) → Bool) (clock : (n r : ℕ) → ℕ) (one two : ℕ → ℕ → ℕ) →
    Passed m → Delays m.circuit one two → Clocks m clock → InOrder m clock →
    (holds : (n r : ℕ) → Bool) × (waves : ℕ → Wave)
    × Run m (record { start = start; outside = outside; clock = clock; holds = holds; waves = waves })
    × MovesBy m.circuit one two waves
