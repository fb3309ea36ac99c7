use Rattle.fitting.specs.Misfit.{ClockWithin, FirstMisfit}
use Rattle.fitting.proofs.misfit_clock.Given as goal

abbrev pub invariant-loop-e : goal.invariant-loop-e
invariant-loop-e l = FirstMisfit (ClockWithin l.bench.circuit.registers.now) l.e-items l.e-index l.first
