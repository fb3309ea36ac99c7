-- Why a register marked `Even` does not take at the end of cycle 0: there its sources have had one period, and in all
-- later cycles at whose ends it takes they have had two.
use Rattle.std.specs.Prelude.{◌≢◌, ℕ, suc, ◌%◌, ◌<◌, ◌==◌, [], ◌∷◌}
use Rattle.board.specs.declared.mark.Mark.TheVariants.{Even}
use Rattle.board.specs.Board.{Board, Passed, reference}
use Rattle.board.specs.Run.{Run, Trace}
use Rattle.board.specs.Promise.{with_schedule}
use Rattle.board.specs.Marks.{takes_by, KeptIn}

-- in some run some register holds another bit than the reference
abbrev pub GoesWrong : Board → Type 0
GoesWrong m =
    (x : Trace) × Run m x × ((n : ℕ) × (r : ℕ) × (r < m.registers) × (x.holds n r ≢ reference m x.start x.outside n r))

-- a register that takes its own bit through a gate, at the ends of cycles 0, 2, 4 and so on. In cycle 0 its output
-- changes until moment 2, the gate has a delay of up to 3 moments, and the cycle ends at moment 4
abbrev pub even_from_zero : Board
even_from_zero = record {
  registers = 1;
  circuit = record {
    inputs = 1;
    gates = record {
      one = 0;
      two = 0;
      table = 8;
      least_one = 1;
      greatest_one = 3;
      least_two = 1;
      greatest_two = 3;
    } ∷ [];
  };
  takes = λ r. 1;
  takes_at = λ r n. n % 2 == 0;
  early = λ r. 0;
  late = λ r. 0;
  input_early = λ i. 0;
  input_late = λ i. 0;
  period = 4;
  output_early = 1;
  output_late = 2;
  setup = 0;
  hold = 0;
}

-- both sums are right in every cycle but cycle 0, those that `TwoCycles` looks at among them; and yet there is a run in
-- which the register holds another bit than the reference. With the mark `Even` the same board is passed
pub record FirstCycle (m : Board) : Type 0 where
  pub later_kept : (n : ℕ) → KeptIn m (suc n)
  pub not_passed : Passed m → ⊥
  pub goes_wrong : GoesWrong m
  pub passed_with_mark : Passed (with_schedule m (λ r n. takes_by Even n))

abbrev pub FirstCycleMatters : Type 0
FirstCycleMatters = FirstCycle even_from_zero
