-- Everything that a real board can do.
use Rattle.std.specs.Prelude.{◌≡◌, ℕ, suc, ◌+◌, ◌*◌, ◌<◌, ◌≤◌, Bool}
use Rattle.arrival.specs.Window.{Wave, Moves}
use Rattle.promise.specs.Machine.{Machine}

-- clocks that come within their bounds: in cycle n not before its beginning and the register's early time, nor after its beginning and the
-- register's late time
abbrev pub Clocks : Machine → (clock : ℕ → ℕ → ℕ) → Type 0
Clocks m clock = (n r : ℕ) → r < m.registers → (n * m.period + m.early r ≤ clock n r) × (clock n r ≤ n * m.period + m.late r)

-- a run: when the clock comes to each register in each cycle, what the registers hold in each cycle, and what every signal is at each moment
pub record Run (m : Machine) (start : ℕ → Bool) (clock : ℕ → ℕ → ℕ) (holds : ℕ → ℕ → Bool) (w : ℕ → Wave) : Type 0 where
  pub clocks : Clocks m clock
  -- every gate follows its inputs with delays within their bounds, at each moment and for each input anew
  pub gates : Moves m.circuit w
  pub starts : (r : ℕ) → r < m.registers → holds 0 r ≡ start r
  -- a register shows what it holds from the latest output time after its clock until the earliest output time after its next clock; in between
  -- nothing is said
  pub shows : (n r t : ℕ) → r < m.registers → clock n r + m.output_late ≤ t → t < clock (suc n) r + m.output_early → w r t ≡ holds n r
  -- it takes a bit at its clock if its signal was this bit all the time from the setup time before the clock to the hold time after it, both
  -- ends included; else nothing is said
  pub takes : (n r : ℕ) (b : Bool) → r < m.registers →
      ((t : ℕ) → clock (suc n) r ≤ t + m.setup → t ≤ clock (suc n) r + m.hold → w (m.takes r) t ≡ b) → holds (suc n) r ≡ b
