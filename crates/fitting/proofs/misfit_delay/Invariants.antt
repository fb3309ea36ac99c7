use Rattle.circuit.specs.Checked.{of}
use Rattle.script.specs.Told.{DelayFits}
use Rattle.fitting.specs.Misfit.{FirstMisfit}
use Rattle.fitting.proofs.misfit_delay.Given as goal

abbrev pub invariant-loop-e : goal.invariant-loop-e
invariant-loop-e l = FirstMisfit (of l.bench.circuit (DelayFits l.bench.script.now)) l.e-items l.e-index l.first
