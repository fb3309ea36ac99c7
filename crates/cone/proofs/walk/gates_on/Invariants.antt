use Rattle.std.proofs.Common.{◌≡◌, ◌+◌, ◌<◌, ◌≤◌, length}
use Rattle.circuit.specs.Checked.{signals_of}
use Rattle.path.specs.Path.{told_path}
use Rattle.cone.specs.Cone.{InCone}
use Rattle.cone.proofs.Marking.{wires}
use Rattle.cone.proofs.walk.gates_on.Given as goal

abbrev pub invariant-loop-at : goal.invariant-loop-at
invariant-loop-at l = record {
  inside : l.at < signals_of l.circuit;
  cone : InCone (wires l.circuit) l.to l.at;
  few : l.count + l.at ≤ l.to;
  steps : l.count + length (told_path l.edge l.circuit l.at).1 ≡ length (told_path l.edge l.circuit l.to).1;
}

abbrev pub decreases-loop-at : goal.decreases-loop-at
decreases-loop-at l = l.at
