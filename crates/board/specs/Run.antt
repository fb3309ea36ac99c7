-- Everything that a board can do.
use Rattle.std.specs.Prelude.{◌≡◌, ℕ, suc, ◌+◌, ◌*◌, ◌<◌, ◌≤◌, Bool, true, false}
use Rattle.arrival.specs.Window.{Wave, Moves}
use Rattle.board.specs.Board.{Board, launch_cycle}

-- what there is to see of a board over all time
pub record Trace : Type 0 where
  -- the bit that each register begins with
  pub start : ℕ → Bool
  -- the bit of each input in each cycle
  pub outside : (n i : ℕ) → Bool
  -- the moment at which the clock of each cycle comes to each register
  pub clock : (n r : ℕ) → ℕ
  -- the bit that each register holds in each cycle
  pub holds : (n r : ℕ) → Bool
  -- what each signal shows at each moment
  pub waves : ℕ → Wave

-- clocks that come within their bounds
abbrev pub Clocks : Board → (clock : (n r : ℕ) → ℕ) → Type 0
Clocks m clock =
    (n r : ℕ) → r < m.registers → (n * m.period + m.early r ≤ clock n r) × (clock n r ≤ n * m.period + m.late r)

-- what the sources of a board do, whatever its gates are
pub record SourcesBehave (m : Board) (x : Trace) : Type 0 where
  pub clocks : Clocks m x.clock
  pub starts : (r : ℕ) → r < m.registers → x.holds 0 r ≡ x.start r
  -- an input has its bit of a cycle from its late time in the cycle until its early time in the next; in between
  -- nothing is said
  pub comes : (n i t : ℕ) → m.registers ≤ i → i < m.circuit.inputs →
      n * m.period + m.input_late i ≤ t → t < suc n * m.period + m.input_early i → x.waves i t ≡ x.outside n i
  -- a register shows what it holds from the latest output time after the clock at which it took that until the earliest
  -- output time after its next clock, through all cycles in which it keeps it; in between nothing is said
  pub shows : (n r t : ℕ) → r < m.registers →
      x.clock (launch_cycle m r n) r + m.output_late ≤ t → t < x.clock (suc n) r + m.output_early →
      x.waves r t ≡ x.holds n r
  -- at the end of a cycle in which it takes, it takes a bit if its signal was this bit all the time from the setup time
  -- before its clock to the hold time after it, both ends included; else nothing is said
  pub takes : (n r : ℕ) (b : Bool) → r < m.registers → m.takes_at r n ≡ true →
      ((t : ℕ) → x.clock (suc n) r ≤ t + m.setup → t ≤ x.clock (suc n) r + m.hold → x.waves (m.takes r) t ≡ b) →
      x.holds (suc n) r ≡ b
  -- at the end of any other cycle it keeps its bit
  pub keeps : (n r : ℕ) → r < m.registers → m.takes_at r n ≡ false → x.holds (suc n) r ≡ x.holds n r

-- a run: its sources do that, and every gate follows its inputs with delays within their bounds, at each moment and for
-- each input anew
pub record Run (m : Board) (x : Trace) : Type 0 where
  pub sources : SourcesBehave m x
  pub gates : Moves m.circuit x.waves
