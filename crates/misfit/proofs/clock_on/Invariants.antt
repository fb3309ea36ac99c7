use Rattle.std.proofs.Common.{◌≡◌, ℕ, ◌<◌}
use Rattle.script.specs.Entries.{entry}
use Rattle.fitting.specs.Misfit.{ClockWithin}
use Rattle.misfit.proofs.clock_on.Given as goal

-- the clocks so far that are told on the line are within their bounds
abbrev pub invariant-loop-e : goal.invariant-loop-e
invariant-loop-e l = (i : ℕ) → i < l.e-index → (entry l.script.clocks i).line ≡ l.line → ClockWithin l.circuit.registers.now (entry l.script.clocks i)
