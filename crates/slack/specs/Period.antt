-- The shortest period of a machine, and its frequency.
use Rattle.std.specs.Prelude.{◌≡◌, ℕ, ◌+◌, ◌*◌, ◌<◌, ◌≤◌, ◌↔◌, pos, ◌-ℤ◌}
use Rattle.arrival.specs.declared.edge.Edge.TheVariants.{Late, Early}
use Rattle.promise.specs.Machine.{Machine, Formed, Passed, SetupKept, HoldKept, last_change, first_change}
use Rattle.promise.specs.Promise.{with_period}
use Rattle.slack.specs.Margin.{margin_of}

-- with another period arrival times and hold margins are the same, and setup margins change by as much as the period does
abbrev pub OtherPeriod : Type 0
OtherPeriod =
    (m : Machine) (p : ℕ) →
    ((k : ℕ) → (last_change (with_period m p) k ≡ last_change m k) × (first_change (with_period m p) k ≡ first_change m k))
    × ((r : ℕ) → margin_of Early (with_period m p) r ≡ margin_of Early m r)
    × ((r : ℕ) → margin_of Late (with_period m p) r -ℤ pos p ≡ margin_of Late m r -ℤ pos m.period)

-- with the period p the setup sum is right at every register
abbrev pub SetupKeptWith : Machine → ℕ → Type 0
SetupKeptWith m p = (r : ℕ) → r < m.registers → SetupKept (with_period m p) r

-- p is the smallest period with which it is, whatever the machine's own period is
abbrev pub IsShortest : Machine → ℕ → Type 0
IsShortest m p = SetupKeptWith m p × ((q : ℕ) → SetupKeptWith m q → p ≤ q)

-- that is: with p it is right, and with one less it is not, or p is 0
abbrev pub OneLessIsNot : Type 0
OneLessIsNot = (m : Machine) (p : ℕ) → IsShortest m p ↔ (SetupKeptWith m p × ((q : ℕ) → q + 1 ≡ p → SetupKeptWith m q → ⊥))

-- the periods with which a machine is passed are those from s on, where the hold sum is right at every register; else there is none
abbrev pub PassedFrom : Machine → ℕ → Type 0
PassedFrom m s = (p : ℕ) → Passed (with_period m p) ↔ ((s ≤ p) × ((r : ℕ) → r < m.registers → HoldKept m r))

-- a machine that is well formed is passed from its shortest period on
abbrev pub PassedFromShortest : Type 0
PassedFromShortest = (m : Machine) (s : ℕ) → Formed m → IsShortest m s → PassedFrom m s

-- f is the frequency of a period in picoseconds, in thousandths of MHz and rounded down: as many whole periods as a thousandth of a second has
abbrev pub IsFrequency : (period f : ℕ) → Type 0
IsFrequency period f = (f * period ≤ 1000000000) × (1000000000 < (f + 1) * period)
