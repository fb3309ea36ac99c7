use Rattle.std.proofs.Common.{vec_items}
use Rattle.std.specs.List.{AllZip}
use Rattle.circuit.specs.Checked.{of}
use Rattle.promise.specs.Machine.{machine_in}
use Rattle.worst_paths.specs.FirstPaths.{register_paths}
use Rattle.worst_paths.specs.Entries.{IsEndEntry}
use Rattle.worst_paths.proofs.rows.all_ends.Given as goal

abbrev pub invariant-loop-r : goal.invariant-loop-r
invariant-loop-r l = AllZip (IsEndEntry l.edge (of l.circuit machine_in) l.k) (vec_items l.ends) (register_paths l.edge (of l.circuit machine_in) 1000000 l.k l.r)
