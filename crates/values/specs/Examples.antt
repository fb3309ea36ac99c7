-- What an example shows: a circuit of which something holds, and a run that goes wrong.
use Rattle.std.specs.Prelude.{ℕ, ◌<◌, Bool, List, ◌≢◌}
use Rattle.circuit.specs.Whole.{Whole}
use Rattle.arrival.specs.Window.{Wave}
use Rattle.promise.specs.Machine.{Machine, machine_in, drawing}
use Rattle.promise.specs.Run.{Run}

-- there are numbers that are a circuit, and P holds of its machine
abbrev pub SomeCircuit : (P : Machine → Type 0) → Type 0
SomeCircuit P =
    (gates : List ℕ) × (registers : List ℕ) × (times : List ℕ) × Whole gates registers times
    × P (machine_in gates registers times)

-- in some run some register does not hold the drawing's bit after some cycle
abbrev pub GoesWrong : Machine → Type 0
GoesWrong m =
    (start : ℕ → Bool) × (clock : ℕ → ℕ → ℕ) × (holds : ℕ → ℕ → Bool) × (w : ℕ → Wave) × Run m start clock holds w
    × ((n : ℕ) × (r : ℕ) × (r < m.registers) × (holds n r ≢ drawing m start n r))
