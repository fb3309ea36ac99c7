use Rattle.circuit.specs.Checked.{of}
use Rattle.promise.specs.Machine.{machine_in}
use Rattle.worst_paths.proofs.FigureLaws.{IsTally}
use Rattle.worst_paths.proofs.figures.negatives.Given as goal

abbrev pub invariant-loop-r : goal.invariant-loop-r
invariant-loop-r l = IsTally l.edge (of l.circuit machine_in) l.r l.violations l.total
