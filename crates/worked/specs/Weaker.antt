-- Tests that look right and are weaker than passing: each lets a circuit through that goes wrong in some run.
use Rattle.std.specs.Prelude.{◌≡◌, ℕ, ◌+◌, ◌<◌, ◌≤◌, max, Bool}
use Rattle.circuit.specs.Circuit.{Circuit, along}
use Rattle.arrival.specs.Arrival.{latest, earliest}
use Rattle.arrival.specs.Window.{Wave}
use Rattle.promise.specs.Machine.{Machine, SetupKept, HoldKept, still_for, first_change, drawing}
use Rattle.promise.specs.Promise.{Delays, MovesBy}
use Rattle.promise.specs.Run.{Run}
use Rattle.values.specs.Examples.{SomeCircuit, GoesWrong}

-- at most in place of below in the hold sum
abbrev pub AtMost : Machine → Type 0
AtMost m = (r : ℕ) → r < m.registers → SetupKept m r × (m.late r + m.hold ≤ first_change m (m.takes r))

-- both sums with the clock at the same of its bounds everywhere
abbrev pub SumsAt : Machine → (clock : ℕ → ℕ) → ℕ → Type 0
SumsAt m clock r =
    (latest m.circuit (λ i. clock i + m.output_late) (m.takes r) + m.setup ≤ m.period + clock r)
    × (clock r + m.hold < earliest m.circuit (λ i. clock i + m.output_early) (m.takes r))

-- a clock late everywhere, and a clock early everywhere
abbrev pub OneClock : Machine → Type 0
OneClock m = (r : ℕ) → r < m.registers → SumsAt m m.late r × SumsAt m m.early r

-- all runs hold the drawing's bits in which each input of each gate has one delay, chosen once within its bounds and
-- kept at all moments; one is the delay of each gate's first input and two of its second. All greatest delays, and
-- all least, are such choices
abbrev pub KeptDelays : Machine → Type 0
KeptDelays m =
    (one two : ℕ → ℕ) → Delays m.circuit (λ k t. one k) (λ k t. two k) →
    (start : ℕ → Bool) (clock : ℕ → ℕ → ℕ) (holds : ℕ → ℕ → Bool) (w : ℕ → Wave) →
    Run m start clock holds w → MovesBy m.circuit (λ k t. one k) (λ k t. two k) w →
    (n r : ℕ) → r < m.registers → holds n r ≡ drawing m start n r

-- the earliest time of every signal, but with the greatest of a gate's inputs' times, each with its least delay,
-- where the smallest is right
unfoldable pub greatest_early : Circuit → (s : ℕ → ℕ) → (ℕ → ℕ)
greatest_early c s = along (λ _ g a b. max (a + g.least_one) (b + g.least_two)) c.inputs c.gates s

-- the right setup sum, and the hold sum with this time
abbrev pub GreatestEarly : Machine → Type 0
GreatestEarly m =
    (r : ℕ) → r < m.registers →
    SetupKept m r × (m.late r + m.hold < greatest_early m.circuit (still_for m) (m.takes r))

-- the period less the late time in place of the right setup sum: all registers are taken to be clocked at a cycle's
-- beginning, and the late time of the register that takes is taken off the period, to make up for that. So the latest
-- time of the signal from the latest output time alone, and the setup time, are at most the period less this late
-- time; and the hold sum is right
abbrev pub PeriodLessLate : Machine → Type 0
PeriodLessLate m =
    (r : ℕ) → r < m.registers →
    (latest m.circuit (λ i. m.output_late) (m.takes r) + m.setup + m.late r ≤ m.period) × HoldKept m r

-- a test lets a circuit through that goes wrong
abbrev pub NotEnough : (Machine → Type 0) → Type 0
NotEnough Test = SomeCircuit (λ m. Test m × GoesWrong m)

-- none of the five tests is enough
abbrev pub WeakerTestsFail : Type 0
WeakerTestsFail =
    NotEnough AtMost × NotEnough OneClock × NotEnough KeptDelays × NotEnough GreatestEarly × NotEnough PeriodLessLate
