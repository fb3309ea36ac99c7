use Rattle.circuit.specs.Checked.{of}
use Rattle.fitting.specs.Misfit.{FirstMisfitIn, TurnsBelow}
use Rattle.fitting.proofs.misfit_turns.Given as goal

abbrev pub invariant-loop-r : goal.invariant-loop-r
invariant-loop-r l = FirstMisfitIn (of l.bench.circuit (TurnsBelow l.bench.script.now) l.r) l.bench.script.now.clocks l.first
