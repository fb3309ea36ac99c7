-- The sums of a board with marks as the capturing register sees them: one sum of each kind for each register, whatever
-- the cycle.
use Rattle.std.specs.Prelude.{◌≡◌, ℕ, suc, ◌+◌, ◌*◌, ◌<◌, ◌≤◌, ◌↔◌, Bool, true, false, cond, min, max, nat_lt}
use Rattle.circuit.specs.Circuit.{signals, Sound}
use Rattle.arrival.specs.Arrival.{latest, earliest}
use Rattle.promise.specs.Machine as base
use Rattle.board.specs.declared.mark.Mark.{Mark}
use Rattle.board.specs.declared.mark.Mark.TheVariants.{Every, Odd, Even, Second}
use Rattle.board.specs.Board.{Board, Formed, Passed, last_change, first_change}
use Rattle.board.specs.Marks.{takes_by, Marked}
use Rattle.board.specs.Promise.{board_of, with_period}

-- two marks are in phase if registers with them take at the ends of odd cycles alone, or both at the ends of even
-- cycles alone
abbrev pub in_phase : (capture launch : Mark) → Bool
in_phase Odd Odd = true
in_phase Odd Second = true
in_phase Second Odd = true
in_phase Second Second = true
in_phase Even Even = true
in_phase _ _ = false

-- and out of phase if one takes at the ends of odd cycles alone, and the other at the ends of even cycles alone
abbrev pub out_of_phase : (capture launch : Mark) → Bool
out_of_phase Odd Even = true
out_of_phase Second Even = true
out_of_phase Even Odd = true
out_of_phase Even Second = true
out_of_phase _ _ = false

-- Latest times count from the beginning of the cycle at whose end a register captures, if its mark is `Every`, and else
-- from the beginning of the cycle before, so that no launch lies before: this many cycles earlier
abbrev pub cycles_before : (capture : Mark) → ℕ
cycles_before Every = 0
cycles_before Odd = 1
cycles_before Even = 1
cycles_before Second = 1

-- how many cycles after that a source launches what is captured: a source that is in phase with the capturing register
-- launches it two cycles before the capture, and each other source in the worst case one cycle before
abbrev pub launch_offset : (capture launch : Mark) → ℕ
launch_offset c s = cond (in_phase c s) 0 (cycles_before c)

-- Earliest times count from the end of the cycle at whose end a register captures. For how many cycles more a source
-- holds its bit: one that is out of phase with the capturing register does not take there, but a cycle later
abbrev pub held_over : (capture launch : Mark) → ℕ
held_over c s = cond (out_of_phase c s) 1 0

-- the latest and the earliest time of source i, for captures of one mark
abbrev pub late_source : Board → (mark : ℕ → Mark) → (capture : Mark) → (i : ℕ) → ℕ
late_source m mark c i =
    cond (nat_lt i m.registers)
    (launch_offset c (mark i) * m.period + (m.late i + m.output_late))
    (cycles_before c * m.period + m.input_late i)

abbrev pub early_source : Board → (mark : ℕ → Mark) → (capture : Mark) → (i : ℕ) → ℕ
early_source m mark c i =
    cond (nat_lt i m.registers) (held_over c (mark i) * m.period + (m.early i + m.output_early)) (m.input_early i)

-- and of signal k
abbrev pub late_time : Board → (mark : ℕ → Mark) → (capture : Mark) → (k : ℕ) → ℕ
late_time m mark c = latest m.circuit (late_source m mark c)

abbrev pub early_time : Board → (mark : ℕ → Mark) → (capture : Mark) → (k : ℕ) → ℕ
early_time m mark c = earliest m.circuit (early_source m mark c)

-- the two sums of register r
abbrev pub SetupMet : Board → (mark : ℕ → Mark) → (r : ℕ) → Type 0
SetupMet m mark r =
    late_time m mark (mark r) (m.takes r) + m.setup ≤ suc (cycles_before (mark r)) * m.period + m.early r

abbrev pub HoldMet : Board → (mark : ℕ → Mark) → (r : ℕ) → Type 0
HoldMet m mark r = m.late r + m.hold < early_time m mark (mark r) (m.takes r)

-- a board is well formed and both sums are right at each register
pub record MetByCapture (m : Board) (mark : ℕ → Mark) : Type 0 where
  pub formed : Formed m
  pub setup_met : (r : ℕ) → r < m.registers → SetupMet m mark r
  pub hold_met : (r : ℕ) → r < m.registers → HoldMet m mark r

-- A BOARD WITH MARKS IS PASSED exactly if it is well formed and both of these sums are right at each register
abbrev pub PassedByCapture : Type 0
PassedByCapture = (m : Board) (mark : ℕ → Mark) → Marked m mark → Passed m ↔ MetByCapture m mark

-- The cycles that these times are of. The times at a marked capture are those of each cycle, from cycle 3 on, at whose
-- end registers with that mark take: cycle 3 is looked at for `Odd` and `Second`, and cycle 4 for `Even`. The times at
-- an unmarked capture are the worse of two cycles in a row, from cycle 3 on, each counted from its own beginning or
-- end: cycles 3 and 4 are looked at, by one set of times
pub record TimesOfCycles (m : Board) (mark : ℕ → Mark) : Type 0 where
  pub late_marked : (c : Mark) (n k : ℕ) → k < signals m.circuit → cycles_before c ≡ 1 → 2 ≤ n →
      takes_by c (suc n) ≡ true →
      last_change m (suc n) k ≡ n * m.period + late_time m mark c k
  pub early_marked : (c : Mark) (n k : ℕ) → k < signals m.circuit → cycles_before c ≡ 1 → 2 ≤ n →
      takes_by c (suc n) ≡ true →
      first_change m (suc n) k ≡ suc (suc n) * m.period + early_time m mark c k
  pub late_unmarked : (n k : ℕ) → k < signals m.circuit → 3 ≤ n →
      max (m.period + last_change m n k) (last_change m (suc n) k)
      ≡ suc n * m.period + late_time m mark Every k
  pub early_unmarked : (n k : ℕ) → k < signals m.circuit → 3 ≤ n →
      min (m.period + first_change m n k) (first_change m (suc n) k)
      ≡ suc (suc n) * m.period + early_time m mark Every k

abbrev pub CaptureTimes : Type 0
CaptureTimes = (m : Board) (mark : ℕ → Mark) → Marked m mark → Sound m.circuit → TimesOfCycles m mark

-- the setup slack of register r is at least x
abbrev pub SetupSlack : Board → (mark : ℕ → Mark) → (r x : ℕ) → Type 0
SetupSlack m mark r x =
    late_time m mark (mark r) (m.takes r) + m.setup + x ≤ suc (cycles_before (mark r)) * m.period + m.early r

-- With a period that is longer by d latest times grow by at most d for each cycle before, and earliest times by at most
-- d. So setup slack grows by d at an unmarked register, and by d to twice d at another, and no hold sum goes wrong
pub record TimesByPeriod (m new : Board) (mark : ℕ → Mark) (d : ℕ) : Type 0 where
  pub late_grows : (c : Mark) (k : ℕ) → k < signals m.circuit →
      (late_time m mark c k ≤ late_time new mark c k)
      × (late_time new mark c k ≤ cycles_before c * d + late_time m mark c k)
  pub early_grows : (c : Mark) (k : ℕ) → k < signals m.circuit →
      (early_time m mark c k ≤ early_time new mark c k) × (early_time new mark c k ≤ d + early_time m mark c k)
  pub slack_grows : (r x : ℕ) → r < m.registers → SetupSlack m mark r x → SetupSlack new mark r (x + d)
  pub slack_grows_at_most : (r x : ℕ) → r < m.registers →
      SetupSlack new mark r (x + suc (cycles_before (mark r)) * d) → SetupSlack m mark r x
  pub hold_stays : (r : ℕ) → r < m.registers → HoldMet m mark r → HoldMet new mark r

abbrev pub LongerPeriod : Type 0
LongerPeriod =
    (m : Board) (mark : ℕ → Mark) (d : ℕ) → Formed m → TimesByPeriod m (with_period m (m.period + d)) mark d

-- `Odd` and `Second` have one set of times, so that a board has three sets at most
abbrev pub SecondIsOdd : Type 0
SecondIsOdd =
    (m : Board) (mark : ℕ → Mark) → Sound m.circuit → (k : ℕ) → k < signals m.circuit →
    (late_time m mark Second k ≡ late_time m mark Odd k) × (early_time m mark Second k ≡ early_time m mark Odd k)

-- times of the sources with no marks: from the beginning of the cycle, and from its end
abbrev pub plain_late : Board → (i : ℕ) → ℕ
plain_late m i = cond (nat_lt i m.registers) (m.late i + m.output_late) (m.input_late i)

abbrev pub plain_early : Board → (i : ℕ) → ℕ
plain_early m i = cond (nat_lt i m.registers) (m.early i + m.output_early) (m.input_early i)

-- the times at an unmarked capture are over these, whatever the marks of the sources are
pub record PlainTimes (m : Board) (mark : ℕ → Mark) : Type 0 where
  pub late_plain : (k : ℕ) → k < signals m.circuit → late_time m mark Every k ≡ latest m.circuit (plain_late m) k
  pub early_plain : (k : ℕ) → k < signals m.circuit → early_time m mark Every k ≡ earliest m.circuit (plain_early m) k

-- where the board is that of a machine they are the machine's
pub record MachineTimes (m : base.Machine) (mark : ℕ → Mark) : Type 0 where
  pub late_machine : (k : ℕ) → k < signals m.circuit → late_time (board_of m) mark Every k ≡ base.last_change m k
  pub early_machine : (k : ℕ) → k < signals m.circuit → early_time (board_of m) mark Every k ≡ base.first_change m k

abbrev pub UnmarkedIsPlain : Type 0
UnmarkedIsPlain =
    ((m : Board) (mark : ℕ → Mark) → Sound m.circuit → PlainTimes m mark)
    × ((m : base.Machine) (mark : ℕ → Mark) → base.Formed m → MachineTimes m mark)
