-- Passing by values: the sums of a register, with the settle time of its signal in place of its latest time; and what
-- this promises.
use Rattle.std.specs.Prelude.{◌≡◌, ℕ, suc, ◌+◌, ◌*◌, ◌<◌, ◌≤◌, Bool}
use Rattle.circuit.specs.Circuit.{signals}
use Rattle.drawing.specs.Drawing.{ideal}
use Rattle.arrival.specs.Window.{Wave}
use Rattle.promise.specs.Machine.{Machine, Formed, Passed, HoldKept, since, still_for, drawing, last_change, first_change}
use Rattle.promise.specs.Run.{Run}
use Rattle.promise.specs.Promise.{AsDrawn, with_period}
use Rattle.values.specs.Examples.{SomeCircuit}
use Rattle.values.specs.Settling.{settle_time, keep_time}

-- from when on in a cycle a signal is settled, counted from the cycle's beginning, if the registers hold the bits b
abbrev pub last_change_by : Machine → (b : ℕ → Bool) → ℕ → ℕ
last_change_by m b = settle_time m.circuit b (since m)

-- and until when in the next cycle it is kept, counted from that cycle's beginning
abbrev pub first_change_by : Machine → (b : ℕ → Bool) → ℕ → ℕ
first_change_by m b = keep_time m.circuit b (still_for m)

-- whatever the registers hold, register r's signal is settled the setup time before the earliest clock of the next
-- cycle
abbrev pub SetupByValues : Machine → ℕ → Type 0
SetupByValues m r = (b : ℕ → Bool) → last_change_by m b (m.takes r) + m.setup ≤ m.period + m.early r

-- whatever the registers hold, register r's signal is kept until after the hold time after the latest clock
abbrev pub HoldByValues : Machine → ℕ → Type 0
HoldByValues m r = (b : ℕ → Bool) → m.late r + m.hold < first_change_by m b (m.takes r)

-- A MACHINE IS PASSED BY VALUES if it is well formed, and at every register the setup sum is right by values and the
-- hold sum is right
pub record PassedByValues (m : Machine) : Type 0 where
  pub formed : Formed m
  pub setup_kept : (r : ℕ) → r < m.registers → SetupByValues m r
  pub hold_kept : (r : ℕ) → r < m.registers → HoldKept m r

-- A REGISTER WITH RIGHT SUMS takes, in every run and every cycle, what its signal is when nothing takes time and all
-- registers hold what they held in that cycle: whatever this was, and whether or not the other registers' sums are
-- right
abbrev pub TakesItsSignal : Type 0
TakesItsSignal =
    (m : Machine) → Formed m → (r : ℕ) → r < m.registers → SetupByValues m r → HoldKept m r →
    (start : ℕ → Bool) (clock : ℕ → ℕ → ℕ) (holds : ℕ → ℕ → Bool) (w : ℕ → Wave) → Run m start clock holds w →
    (n : ℕ) → holds (suc n) r ≡ ideal m.circuit (holds n) (m.takes r)

-- THE PROMISE. After every cycle of every run of a machine that is passed by values every register holds the
-- drawing's bit
abbrev pub PromiseByValues : Type 0
PromiseByValues = (m : Machine) → PassedByValues m → AsDrawn m

-- and in each cycle every signal is the drawing's bit, from the cycle's beginning and its settle time on until before
-- the next cycle's beginning and its earliest time
abbrev pub InWindowByValues : Type 0
InWindowByValues =
    (m : Machine) (start : ℕ → Bool) (clock : ℕ → ℕ → ℕ) (holds : ℕ → ℕ → Bool) (w : ℕ → Wave) →
    PassedByValues m → Run m start clock holds w → (n k t : ℕ) → k < signals m.circuit →
    n * m.period + last_change_by m (drawing m start n) k ≤ t → t < suc n * m.period + first_change m k →
    w k t ≡ ideal m.circuit (drawing m start n) k

-- The same with both sums by values; for this no signal that a register takes may begin to change, in the next cycle,
-- before it has changed last in this one
pub record PassedByValuesAtBothEnds (m : Machine) : Type 0 where
  pub formed : Formed m
  pub setup_kept : (r : ℕ) → r < m.registers → SetupByValues m r
  pub hold_kept : (r : ℕ) → r < m.registers → HoldByValues m r
  pub in_order : (r : ℕ) → r < m.registers → last_change m (m.takes r) ≤ m.period + first_change m (m.takes r)

-- the same promise of it
abbrev pub PromiseAtBothEnds : Type 0
PromiseAtBothEnds = (m : Machine) → PassedByValuesAtBothEnds m → AsDrawn m

-- what is passed is passed by values, with the setup sum or with both
abbrev pub PassesNoLess : Type 0
PassesNoLess = (m : Machine) → Passed m → PassedByValues m × PassedByValuesAtBothEnds m

-- and more is passed: some circuit is passed by values and not passed
abbrev pub PassesMore : Type 0
PassesMore = SomeCircuit (λ m. PassedByValues m × (Passed m → ⊥))

-- what is passed by values is so with every longer period
abbrev pub SlowerByValues : Type 0
SlowerByValues = (m : Machine) (p : ℕ) → m.period ≤ p → PassedByValues m → PassedByValues (with_period m p)
