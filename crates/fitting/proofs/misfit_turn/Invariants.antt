use Rattle.circuit.specs.Checked.{of}
use Rattle.fitting.proofs.Turning.{Walked}
use Rattle.fitting.proofs.misfit_turn.Given as goal

abbrev pub invariant-loop-e : goal.invariant-loop-e
invariant-loop-e l = of l.bench.circuit (Walked l.bench.script.now) l.r l.e-items l.e-index l.n l.clock l.first
