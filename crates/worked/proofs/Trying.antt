-- The words of the table, computed.
use Rattle.std.proofs.Common.{ℕ, List, [], ◌∷◌, refl, arith}
use Rattle.circuit.specs.Circuit.{along}
use Rattle.circuit.specs.Lent.{register_count, gates_in}
use Rattle.circuit.specs.Whole.{Whole}
use Rattle.arrival.specs.Arrival.{arrival}
use Rattle.path.specs.Path.{told, written_steps}
use Rattle.promise.specs.Machine.{machine_in, SetupKept, HoldKept, Passed}
use Rattle.values.proofs.Examples.{Every, each, whole_by, formed_of}
use Rattle.worked.specs.Rows.{HasWord, inverter, counter, and_not, passed, too_late, too_early, RowsHave}

-- a circuit is passed if its sums are right, register by register
passes : (g r t : List ℕ) → Whole g r t → Every (register_count r) (SetupKept (machine_in g r t)) →
    Every (register_count r) (HoldKept (machine_in g r t)) → Whole g r t × Passed (machine_in g r t)
passes g r t whole setup hold = (
  whole,
  record {
    formed = formed_of g r t whole;
    setup_kept = each _ _ setup;
    hold_kept = each _ _ hold;
  },
)

first : HasWord (inverter 3 20 passed)
unfolding arrival along gates_in
first = passes _ _ _ (whole_by _ _ _ (omega arith)) (omega arith) (omega arith)

second : HasWord (inverter 3 16 (too_late 0 (0 ∷ 1 ∷ 0 ∷ []) 17 16))
unfolding arrival along gates_in told written_steps
second =
    (whole_by _ _ _ (omega arith), ((omega arith, λ h. omega arith, λ q h. absurd (omega arith)), (refl, refl), refl))

third : HasWord (inverter 1 20 (too_early 0 (0 ∷ 1 ∷ 0 ∷ []) 3 3))
unfolding arrival along gates_in told written_steps
third = (
  whole_by _ _ _ (omega arith),
  ((each 1 _ (omega arith), (omega arith, λ h. omega arith, λ q h. absurd (omega arith))), (refl, refl), refl),
)

fourth : HasWord (counter 3 passed)
unfolding arrival along gates_in
fourth = passes _ _ _ (whole_by _ _ _ (omega arith)) (omega arith) (omega arith)

fifth : HasWord (counter 0 (too_early 1 (0 ∷ []) 2 3))
unfolding arrival along gates_in told written_steps
fifth = (
  whole_by _ _ _ (omega arith),
  ((each 2 _ (omega arith), (omega arith, λ h. omega arith, each 1 _ (omega arith))), (refl, refl), refl),
)

sixth : HasWord (and_not 20 passed)
unfolding arrival along gates_in
sixth = passes _ _ _ (whole_by _ _ _ (omega arith)) (omega arith) (omega arith)

seventh : HasWord (and_not 19 (too_late 0 (0 ∷ 2 ∷ 0 ∷ 3 ∷ 0 ∷ []) 20 19))
unfolding arrival along gates_in told written_steps
seventh =
    (whole_by _ _ _ (omega arith), ((omega arith, λ h. omega arith, λ q h. absurd (omega arith)), (refl, refl), refl))

pub rows_have : RowsHave
rows_have = (first, (second, (third, (fourth, (fifth, (sixth, (seventh, tt)))))))
