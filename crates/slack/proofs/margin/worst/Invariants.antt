use Rattle.circuit.specs.Checked.{of}
use Rattle.promise.specs.Machine.{machine_in}
use Rattle.slack.specs.Margin.{IsWorst}
use Rattle.slack.proofs.margin.worst.Given as goal

abbrev pub invariant-loop-register : goal.invariant-loop-register
invariant-loop-register l = IsWorst l.edge (of l.a.circuit machine_in) l.register l.worst
