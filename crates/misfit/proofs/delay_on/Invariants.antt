use Rattle.std.proofs.Common.{◌≡◌, ℕ, ◌<◌}
use Rattle.circuit.specs.Checked.{of}
use Rattle.script.specs.Entries.{entry}
use Rattle.script.specs.Told.{DelayFits}
use Rattle.misfit.proofs.delay_on.Given as goal

-- the delays so far that are told on the line fit
abbrev pub invariant-loop-e : goal.invariant-loop-e
invariant-loop-e l = (i : ℕ) → i < l.e-index → (entry l.script.delays i).line ≡ l.line → of l.circuit (DelayFits l.script) (entry l.script.delays i)
