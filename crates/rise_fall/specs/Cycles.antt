-- How many cycles have to be looked at, and registers that take less often.
use Rattle.std.specs.Prelude.{◌≡◌, ℕ, ◌<◌, Bool, true}
use Rattle.board.specs.declared.mark.Mark.{Mark}
use Rattle.board.specs.Board.{Board, Formed}
use Rattle.board.specs.Promise.{with_schedule}
use Rattle.board.specs.Marks.{Marked}
use Rattle.rise_fall.specs.Gate.{GateBounds}
use Rattle.rise_fall.specs.Promise.{stable_in, SetupKept, HoldKept, RiseFallPassed}

-- both sums are right in cycle n at each register that takes at its end
pub record RiseFallKeptIn (m : Board) (d : ℕ → GateBounds) (n : ℕ) : Type 0 where
  pub setup_kept : (r : ℕ) → r < m.registers → m.takes_at r n ≡ true → SetupKept m (stable_in m d n) n r
  pub hold_kept : (r : ℕ) → r < m.registers → m.takes_at r n ≡ true → HoldKept m (stable_in m d n) n r

-- of a board with marks only cycles 3 and 4 have to be looked at
abbrev pub RiseFallTwoCycles : Type 0
RiseFallTwoCycles =
    (m : Board) (d : ℕ → GateBounds) (mark : ℕ → Mark) → Marked m mark → Formed m →
    RiseFallKeptIn m d 3 → RiseFallKeptIn m d 4 → RiseFallPassed m d

-- and of one whose registers take in every cycle only cycle 0
abbrev pub RiseFallOneCycle : Type 0
RiseFallOneCycle =
    (m : Board) (d : ℕ → GateBounds) → ((r n : ℕ) → m.takes_at r n ≡ true) → Formed m → RiseFallKeptIn m d 0 →
    RiseFallPassed m d

-- what is passed is so when registers take in fewer cycles
abbrev pub RiseFallFewerTakes : Type 0
RiseFallFewerTakes =
    (m : Board) (d : ℕ → GateBounds) (more : (r n : ℕ) → Bool) → ((r n : ℕ) → m.takes_at r n ≡ true → more r n ≡ true) →
    RiseFallPassed (with_schedule m more) d → RiseFallPassed m d
