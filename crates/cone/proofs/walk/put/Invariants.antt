use Rattle.std.proofs.Common.{◌<◌}
use Rattle.circuit.specs.Checked.{registers_of, signals_of}
use Rattle.path.specs.Path.{told_path, written}
use Rattle.path.proofs.Writing.{Sofar}
use Rattle.cone.specs.Cone.{InCone}
use Rattle.cone.proofs.Marking.{wires}
use Rattle.cone.proofs.walk.put.Given as goal

abbrev pub invariant-loop-at : goal.invariant-loop-at
invariant-loop-at l = record {
  inside : l.at < signals_of l.circuit;
  cone : InCone (wires l.circuit) l.to l.at;
  sofar : Sofar (registers_of l.circuit) (written (registers_of l.circuit) (told_path l.edge l.circuit l.to)) l.initial.out (told_path l.edge l.circuit l.at) l.i l.out;
}

abbrev pub decreases-loop-at : goal.decreases-loop-at
decreases-loop-at l = l.at
