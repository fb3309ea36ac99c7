use Rattle.std.proofs.Common.{◌≤◌}
use Rattle.circuit.specs.Checked.{gates_of}
use Rattle.cone.proofs.Marking.{IsMarking}
use Rattle.cone.proofs.marks.mark_cone.Given as goal

abbrev pub invariant-loop-k : goal.invariant-loop-k
invariant-loop-k l = record { few : l.k ≤ gates_of l.circuit; marking : IsMarking l.circuit l.to l.k l.marks }

abbrev pub decreases-loop-k : goal.decreases-loop-k
decreases-loop-k l = l.k
