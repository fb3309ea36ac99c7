-- A circuit that is passed by values alone.
use Rattle.std.proofs.Common.{ℕ, ◌≤◌, Bool, true, false, List, [], ◌∷◌, arith}
use Rattle.circuit.specs.Gate.{output}
use Rattle.circuit.specs.Circuit.{along}
use Rattle.circuit.specs.Lent.{gates_in}
use Rattle.circuit.specs.Whole.{Whole}
use Rattle.drawing.specs.Drawing.{ideal}
use Rattle.arrival.specs.Arrival.{arrival}
use Rattle.promise.specs.Machine.{Machine, machine_in, Passed}
use Rattle.values.specs.Settling.{settle_time}
use Rattle.values.specs.ByValues.{last_change_by, PassesMore}
use Rattle.values.proofs.Examples.{each, whole_by, formed_of}

-- the second gate takes the register's bit without the first gate's output, which is that bit too, by one of its
-- inputs too late
abbrev gates : List ℕ
gates = 0 ∷ 0 ∷ 8 ∷ 0 ∷ 1 ∷ 0 ∷ 2 ∷ 1 ∷ 0 ∷ 2 ∷ 0 ∷ 0 ∷ 0 ∷ 0 ∷ []

abbrev registers : List ℕ
registers = 2 ∷ 0 ∷ 0 ∷ []

abbrev times : List ℕ
times = 2 ∷ 1 ∷ 1 ∷ 0 ∷ 0 ∷ []

machine : Machine
machine = machine_in gates registers times

whole : Whole gates registers times
whole = whole_by _ _ _ (omega arith)

with_bit : (a : Bool) → last_change_by machine (λ i. a) 2 ≤ 2
unfolding machine settle_time ideal along output gates_in
with_bit true = omega arith
with_bit false = omega arith

settled : (b : ℕ → Bool) → last_change_by machine b 2 ≤ 2
unfolding machine settle_time ideal along gates_in
settled b = with_bit (b 0)

not_passed : Passed machine → ⊥
unfolding machine arrival along gates_in
not_passed passed = let late = passed.setup_kept 0 (omega arith) in omega arith

pub passes_more : PassesMore
unfolding machine arrival along gates_in
passes_more = (
  gates,
  registers,
  times,
  whole,
  (
    record {
      formed = formed_of _ _ _ whole;
      setup_kept = each 1 _ ((λ b. let le = settled b in omega arith), tt);
      hold_kept = each 1 _ (omega arith);
    },
    not_passed,
  ),
)
