-- The margins of a machine's registers: how much each of a register's two sums could grow and still be right.
use Rattle.std.specs.Prelude.{◌≡◌, ℕ, ◌+◌, ◌*◌, ◌<◌, ◌≤◌, ◌↔◌, ℤ, pos, ◌+ℤ◌, ◌-ℤ◌, ◌≤ℤ◌, ◌<ℤ◌, List, slice_index_or}
use Rattle.arrival.specs.declared.edge.Edge.{Edge}
use Rattle.arrival.specs.declared.edge.Edge.TheVariants.{Late, Early}
use Rattle.promise.specs.Machine.{Machine, Formed, Passed, last_change, first_change, SetupKept, HoldKept}
use Rattle.slack.specs.declared.worst.Worst.{Worst}
use Rattle.slack.specs.declared.worst.Smallest.{Smallest}

-- a register's setup margin is period and early time less latest time and setup; its hold margin is earliest time less late time and hold, less one
abbrev pub margin_of : Edge → Machine → ℕ → ℤ
margin_of Late m r = pos (m.period + m.early r) -ℤ pos (last_change m (m.takes r) + m.setup)
margin_of Early m r = pos (first_change m (m.takes r)) -ℤ pos (m.late r + m.hold) -ℤ pos 1

-- a margin is not below 0: nothing is missing
abbrev pub Enough : Edge → Machine → ℕ → Type 0
Enough e m r = pos 0 ≤ℤ margin_of e m r

-- A MACHINE IS PASSED exactly if it is well formed and no margin of a register is below 0
abbrev pub PassedByMargins : Type 0
PassedByMargins = (m : Machine) → Passed m ↔ (Formed m × ((e : Edge) (r : ℕ) → r < m.registers → Enough e m r))

-- a register's setup sum or hold sum is right
abbrev pub Kept : Edge → Machine → ℕ → Type 0
Kept Late = SetupKept
Kept Early = HoldKept

-- how long a register needs its input still: the setup time before its clock, the hold time after it
abbrev pub need : Edge → Machine → ℕ
need Late m = m.setup
need Early m = m.hold

-- the machine with another such time
abbrev pub with_need : Edge → Machine → ℕ → Machine
with_need Late m t = record m { setup = t }
with_need Early m t = record m { hold = t }

-- with the time t in its place a register's sum is right exactly if t is at most the machine's own time and the margin together
abbrev pub MarginIsExact : Type 0
MarginIsExact = (e : Edge) (m : Machine) (r t : ℕ) → Kept e (with_need e m t) r ↔ (pos t ≤ℤ (pos (need e m) +ℤ margin_of e m r))

-- when that time has grown by the margin, or shrunk by what is missing, the register's sum is right; with one more it is not
abbrev pub MarginGrows : Type 0
MarginGrows =
    (e : Edge) (m : Machine) (r t : ℕ) → pos t ≡ pos (need e m) +ℤ margin_of e m r →
    Kept e (with_need e m t) r × (Kept e (with_need e m (t + 1)) r → ⊥)

-- `after` has the margins of the first n registers, of register r at 2r and 2r + 1, and is else as `before` was
pub record MarginsIn (m : Machine) (n : ℕ) (before after : List ℤ) : Type 0 where
  pub setup : (r : ℕ) → r < n → slice_index_or after (2 * r) (pos 0) ≡ margin_of Late m r
  pub hold : (r : ℕ) → r < n → slice_index_or after (2 * r + 1) (pos 0) ≡ margin_of Early m r
  pub rest : (k : ℕ) → 2 * n ≤ k → slice_index_or after k (pos 0) ≡ slice_index_or before k (pos 0)

-- the smallest margin of the first n registers, and the first register that has it
pub record IsWorst (e : Edge) (m : Machine) (n : ℕ) (w : Worst) : Type 0 where
  pub inside : w.register < n
  pub has : w.margin ≡ margin_of e m w.register
  pub smallest : (q : ℕ) → q < n → w.margin ≤ℤ margin_of e m q
  pub first : (q : ℕ) → q < w.register → w.margin <ℤ margin_of e m q

-- the smallest margins of both kinds, of all registers; the machine is passed exactly if neither is below 0
pub record AreSmallest (m : Machine) (s : Smallest) : Type 0 where
  pub setup : IsWorst Late m m.registers s.setup
  pub hold : IsWorst Early m m.registers s.hold
  pub passed : Passed m ↔ ((pos 0 ≤ℤ s.setup.margin) × (pos 0 ≤ℤ s.hold.margin))

-- with the times a and b in the place of both a machine is passed exactly if each is at most the machine's own time and its smallest margin together
abbrev pub PassedWithNeeds : Type 0
PassedWithNeeds =
    (m : Machine) (s : Smallest) (a b : ℕ) → Formed m → AreSmallest m s →
    Passed (with_need Early (with_need Late m a) b) ↔ ((pos a ≤ℤ (pos m.setup +ℤ s.setup.margin)) × (pos b ≤ℤ (pos m.hold +ℤ s.hold.margin)))
