use Rattle.std.proofs.Common.{◌≡◌, ◌<◌, length, map, get_or, vec_items}
use Rattle.circuit.specs.Checked.{of, signals_of}
use Rattle.promise.specs.Machine.{machine_in}
use Rattle.worst_paths.specs.FirstPaths.{paths_to}
use Rattle.worst_paths.specs.Entries.{no_path}
use Rattle.worst_paths.specs.Value.{step_of}
use Rattle.worst_paths.proofs.Traces.{joined}
use Rattle.worst_paths.proofs.tracing.traced_path.Given as goal

abbrev pub invariant-loop-at : goal.invariant-loop-at
invariant-loop-at l = record {
  inside : l.at < signals_of l.circuit;
  ranked : l.rank < length (paths_to l.edge (of l.circuit machine_in) l.k l.at);
  sofar : joined (map step_of (vec_items l.pins)) (get_or (paths_to l.edge (of l.circuit machine_in) l.k l.at) l.rank no_path) ≡ get_or (paths_to l.edge (of l.circuit machine_in) l.k l.to) l.fn.rank no_path;
}

abbrev pub decreases-loop-at : goal.decreases-loop-at
decreases-loop-at l = l.at
