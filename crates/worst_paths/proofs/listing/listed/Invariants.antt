use Rattle.std.proofs.Common.{vec_items}
use Rattle.std.specs.List.{All}
use Rattle.circuit.specs.Checked.{of, registers_of}
use Rattle.promise.specs.Machine.{machine_in}
use Rattle.worst_paths.specs.FirstPaths.{register_paths}
use Rattle.worst_paths.specs.Value.{HasItsTimes}
use Rattle.worst_paths.proofs.Traces.{Sofar}
use Rattle.worst_paths.proofs.listing.listed.Given as goal

abbrev pub invariant-loop-entry : goal.invariant-loop-entry
invariant-loop-entry l = record {
  sofar : Sofar (vec_items l.paths) (register_paths l.edge (of l.circuit machine_in) 1000000 l.k (registers_of l.circuit)) l.entry-index;
  times : All (HasItsTimes l.edge (of l.circuit machine_in)) (vec_items l.paths);
}
