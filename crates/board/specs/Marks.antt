-- Marks of registers, and which cycles have to be looked at.
use Rattle.std.specs.Prelude.{◌≡◌, ℕ, ◌+◌, ◌%◌, ◌<◌, Bool, true, ◌↔◌, ◌&&◌, nat_lt, ◌==◌}
use Rattle.board.specs.declared.mark.Mark.{Mark}
use Rattle.board.specs.declared.mark.Mark.TheVariants.{Every, Odd, Even, Second}
use Rattle.board.specs.Board.{Board, Formed, Passed, SetupKept, HoldKept}
use Rattle.board.specs.Promise.{board_of, with_schedule}
use Rattle.promise.specs.Machine as base
use Rattle.promise.specs.Promise.{with_period}

-- whether a register with this mark takes at the end of cycle n
abbrev pub takes_by : Mark → ℕ → Bool
takes_by Every n = true
takes_by Odd n = n % 2 == 1
takes_by Even n = nat_lt 0 n && (n % 2 == 0)
takes_by Second n = n % 2 == 1

-- a board whose registers take by marks
abbrev pub Marked : Board → (mark : ℕ → Mark) → Type 0
Marked m mark = (r n : ℕ) → m.takes_at r n ≡ takes_by (mark r) n

-- both sums are right in cycle n at each register that takes at its end
pub record KeptIn (m : Board) (n : ℕ) : Type 0 where
  pub setup_kept : (r : ℕ) → r < m.registers → m.takes_at r n ≡ true → SetupKept m n r
  pub hold_kept : (r : ℕ) → r < m.registers → m.takes_at r n ≡ true → HoldKept m n r

-- of a board with marks only cycles 3 and 4 have to be looked at
abbrev pub TwoCycles : Type 0
TwoCycles = (m : Board) (mark : ℕ → Mark) → Marked m mark → Formed m → KeptIn m 3 → KeptIn m 4 → Passed m

-- of one whose registers take in every cycle only cycle 0
abbrev pub OneCycle : Type 0
OneCycle = (m : Board) → ((r n : ℕ) → m.takes_at r n ≡ true) → Formed m → KeptIn m 0 → Passed m

-- the board of a machine with the period p all of whose registers take at the ends of cycles 1, 3, 5 and so on
abbrev pub every_second : base.Machine → (p : ℕ) → Board
every_second m p = with_schedule (board_of (with_period m p)) (λ r n. takes_by Odd n)

-- has two periods: it is passed exactly if the machine is with twice the period
abbrev pub TwoPeriods : Type 0
TwoPeriods =
    (m : base.Machine) (p : ℕ) → base.Formed m → Passed (every_second m p) ↔ base.Passed (with_period m (p + p))
