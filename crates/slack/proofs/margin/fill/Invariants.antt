use Rattle.circuit.specs.Checked.{of}
use Rattle.promise.specs.Machine.{machine_in}
use Rattle.slack.specs.Margin.{MarginsIn}
use Rattle.slack.proofs.margin.fill.Given as goal

abbrev pub invariant-loop-r : goal.invariant-loop-r
invariant-loop-r l = MarginsIn (of l.a.circuit machine_in) l.r l.initial.room l.room
