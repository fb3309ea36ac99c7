use Rattle.std.proofs.Common.{ℕ, ◌-◌, ◌<◌, ◌≤◌}
use Rattle.circuit.specs.Checked.{of, registers_of}
use Rattle.signoff.specs.Verdict.{SumsKept}
use Rattle.signoff.proofs.first_missed.Given as goal

abbrev pub invariant-loop-r : goal.invariant-loop-r
invariant-loop-r l = (l.r ≤ registers_of l.a.circuit) × ((q : ℕ) → q < l.r → of l.a.circuit SumsKept l.edge q)

abbrev pub decreases-loop-r : goal.decreases-loop-r
decreases-loop-r l = registers_of l.a.circuit - l.r
