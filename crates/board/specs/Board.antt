-- Clocked circuits whose registers need not take in every cycle, with inputs from outside: the board, its zero-delay
-- reference, its windows, and when it is passed.
use Rattle.std.specs.Prelude.{◌≡◌, ℕ, zero, suc, ◌+◌, ◌*◌, ◌<◌, ◌≤◌, Bool, true, cond, nat_lt}
use Rattle.circuit.specs.Circuit.{Circuit, signals, Sound}
use Rattle.drawing.specs.Drawing.{ideal}
use Rattle.arrival.specs.Arrival.{latest, earliest}

-- A board. The sources of its circuit are its registers first, and then inputs from outside. Cycle n begins at n times
-- the period, and all times are whole moments
pub record Board : Type 0 where
  pub registers : ℕ
  pub circuit : Circuit
  -- the signal that register r takes
  pub takes : ℕ → ℕ
  -- whether register r takes it at the end of cycle n; else it keeps its bit there
  pub takes_at : (r n : ℕ) → Bool
  -- the least and the greatest time at which a cycle's clock comes to register r, from the cycle's beginning
  pub early : ℕ → ℕ
  pub late : ℕ → ℕ
  -- input i has a cycle's bit from its late time in the cycle until its early time in the next cycle
  pub input_early : ℕ → ℕ
  pub input_late : ℕ → ℕ
  pub period : ℕ
  -- the least and the greatest time from a register's clock to the change of its output
  pub output_early : ℕ
  pub output_late : ℕ
  pub setup : ℕ
  pub hold : ℕ

-- the bits of all sources in cycle n when nothing takes time: registers begin with the bits `start`, and take or keep
-- at the end of each cycle; input i has the bit `outside n i` in cycle n
unfoldable pub reference : Board → (start : ℕ → Bool) → (outside : ℕ → ℕ → Bool) → ℕ → (ℕ → Bool)
reference m start outside zero = λ i. cond (nat_lt i m.registers) (start i) (outside 0 i)
reference m start outside (suc n) = λ i.
    cond (nat_lt i m.registers)
    (cond (m.takes_at i n) (ideal m.circuit (reference m start outside n) (m.takes i)) (reference m start outside n i))
    (outside (suc n) i)

-- the launch cycle of what register r holds in cycle n: the cycle at whose beginning it took that; 0 if it has not
-- taken yet
unfoldable pub launch_cycle : Board → (r n : ℕ) → ℕ
launch_cycle m r zero = 0
launch_cycle m r (suc n) = cond (m.takes_at r n) (suc n) (launch_cycle m r n)

-- a cycle before whose beginning it does not take again: the next one, or if it keeps its bit there the one after
abbrev pub until_cycle : Board → (r n : ℕ) → ℕ
until_cycle m r n = cond (m.takes_at r n) (suc n) (suc (suc n))

-- the window of source i in cycle n: the moment from which it shows its bit of the cycle, and the first at which it may
-- not
unfoldable pub since : Board → (n i : ℕ) → ℕ
since m n i =
    cond (nat_lt i m.registers)
    (launch_cycle m i n * m.period + (m.late i + m.output_late))
    (n * m.period + m.input_late i)

unfoldable pub still_until : Board → (n i : ℕ) → ℕ
still_until m n i =
    cond (nat_lt i m.registers)
    (until_cycle m i n * m.period + (m.early i + m.output_early))
    (suc n * m.period + m.input_early i)

-- the window of signal k in cycle n, by the arrival times over the windows of the sources
abbrev pub last_change : Board → (n k : ℕ) → ℕ
last_change m n = latest m.circuit (since m n)

abbrev pub first_change : Board → (n k : ℕ) → ℕ
first_change m n = earliest m.circuit (still_until m n)

-- register r's signal has its bit of cycle n the setup time before the earliest clock at the cycle's end
abbrev pub SetupKept : Board → (n r : ℕ) → Type 0
SetupKept m n r = last_change m n (m.takes r) + m.setup ≤ suc n * m.period + m.early r

-- and does not change until after the hold time after the latest clock there
abbrev pub HoldKept : Board → (n r : ℕ) → Type 0
HoldKept m n r = suc n * m.period + (m.late r + m.hold) < first_change m n (m.takes r)

-- a board is well formed: its registers are among its circuit's sources, and all bounds are in order
pub record Formed (m : Board) : Type 0 where
  pub sources : m.registers ≤ m.circuit.inputs
  pub sound : Sound m.circuit
  pub taken : (r : ℕ) → r < m.registers → m.takes r < signals m.circuit
  pub clocked : (r : ℕ) → r < m.registers → m.early r ≤ m.late r
  pub inputs_ordered : (i : ℕ) → m.registers ≤ i → i < m.circuit.inputs → m.input_early i ≤ m.input_late i
  pub output_ordered : m.output_early ≤ m.output_late

-- A BOARD IS PASSED if it is well formed and both sums are right at every register in every cycle at whose end it takes
pub record Passed (m : Board) : Type 0 where
  pub formed : Formed m
  pub setup_kept : (n r : ℕ) → r < m.registers → m.takes_at r n ≡ true → SetupKept m n r
  pub hold_kept : (n r : ℕ) → r < m.registers → m.takes_at r n ≡ true → HoldKept m n r
