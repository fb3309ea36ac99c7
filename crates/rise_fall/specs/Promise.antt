-- Boards whose gates have four bounds at each input: when they are passed, and what that promises.
use Rattle.std.specs.Prelude.{◌≡◌, ℕ, suc, ◌+◌, ◌*◌, ◌<◌, ◌≤◌, Bool, true}
use Rattle.circuit.specs.Circuit.{signals}
use Rattle.drawing.specs.Drawing.{ideal}
use Rattle.arrival.specs.Window.{Wave}
use Rattle.board.specs.Board.{Board, Formed, reference, since, still_until}
use Rattle.board.specs.Run.{SourcesBehave, Clocks, Trace}
use Rattle.board.specs.Promise.{InOrder}
use Rattle.rise_fall.specs.Gate.{GateBounds, RiseFallMoves, MovesUpTo, RiseFallDelays, RiseFallMovesBy}
use Rattle.rise_fall.specs.Times.{Stable, stable}

-- when the sources of a board are stable in cycle n: in one window for both bits
abbrev pub sources_in : Board → (n i : ℕ) → Stable
sources_in m n i = record { from = λ b. since m n i; until = λ b. still_until m n i }

-- when a board's signals are stable in cycle n
abbrev pub stable_in : Board → (ℕ → GateBounds) → (n k : ℕ) → Stable
stable_in m d n = stable m.circuit d (sources_in m n)

-- register r's signal has its bit of cycle n, whichever it is, the setup time before the earliest clock at the cycle's
-- end, where in this cycle the signals are stable as `times` says
abbrev pub SetupKept : Board → (times : ℕ → Stable) → (n r : ℕ) → Type 0
SetupKept m times n r = (b : Bool) → (times (m.takes r)).from b + m.setup ≤ suc n * m.period + m.early r

-- and does not change until after the hold time after the latest clock there
abbrev pub HoldKept : Board → (times : ℕ → Stable) → (n r : ℕ) → Type 0
HoldKept m times n r = (b : Bool) → suc n * m.period + (m.late r + m.hold) < (times (m.takes r)).until b

-- a board is well formed, and both sums are right at every register in every cycle at whose end it takes, where in
-- each cycle signals are stable as `times` says
pub record SumsKept (m : Board) (times : ℕ → ℕ → Stable) : Type 0 where
  pub formed : Formed m
  pub setup_kept : (n r : ℕ) → r < m.registers → m.takes_at r n ≡ true → SetupKept m (times n) n r
  pub hold_kept : (n r : ℕ) → r < m.registers → m.takes_at r n ≡ true → HoldKept m (times n) n r

-- A BOARD IS PASSED with the bounds d of its gates if both sums are right with the times by transition
abbrev pub RiseFallPassed : Board → (ℕ → GateBounds) → Type 0
RiseFallPassed m d = SumsKept m (stable_in m d)

-- a run: the sources behave as in every run of a board, and every gate follows its inputs with delays within the
-- bounds of their last transitions
pub record RiseFallRun (m : Board) (d : ℕ → GateBounds) (x : Trace) : Type 0 where
  pub sources : SourcesBehave m x
  pub gates : RiseFallMoves m.circuit d x.waves

-- THE PROMISE. After every cycle of every run of a passed board every register holds the reference's bit
abbrev pub RiseFallPromise : Type 0
RiseFallPromise =
    (m : Board) (d : ℕ → GateBounds) → RiseFallPassed m d → (x : Trace) → RiseFallRun m d x →
    (n r : ℕ) → r < m.registers → x.holds n r ≡ reference m x.start x.outside n r

-- they hold it also where a change at the moment itself counts, so nothing hangs on which is meant
abbrev pub EitherReading : Type 0
EitherReading =
    (m : Board) (d : ℕ → GateBounds) → RiseFallPassed m d →
    (x : Trace) → SourcesBehave m x → MovesUpTo m.circuit d x.waves →
    (n r : ℕ) → r < m.registers → x.holds n r ≡ reference m x.start x.outside n r

-- in each cycle every signal of a passed board shows the reference's bit while it is stable
abbrev pub RiseFallInWindow : Type 0
RiseFallInWindow =
    (m : Board) (d : ℕ → GateBounds) → RiseFallPassed m d → (x : Trace) → RiseFallRun m d x →
    (n k t : ℕ) → k < signals m.circuit →
    let b = ideal m.circuit (reference m x.start x.outside n) k in
    (stable_in m d n k).from b ≤ t → t < (stable_in m d n k).until b → x.waves k t ≡ b

-- a passed board can go, with any bits at the start and from outside, by any delays and any clocks in order within
-- their bounds: what is promised is not promised of nothing
abbrev pub RiseFallCanGo : Type 0
RiseFallCanGo =
    (m : Board) (d : ℕ → GateBounds) (start : ℕ → Bool) (outside : (n i : ℕ) → Bool) (clock : (n r : ℕ) → ℕ)
    (one two : (k t : ℕ) → Bool → ℕ) → RiseFallPassed m d → RiseFallDelays m.circuit d one two → Clocks m clock →
    InOrder m clock →
    (holds : (n r : ℕ) → Bool) × (waves : ℕ → Wave)
    × RiseFallRun m d (record { start = start; outside = outside; clock = clock; holds = holds; waves = waves })
    × RiseFallMovesBy m.circuit one two waves
