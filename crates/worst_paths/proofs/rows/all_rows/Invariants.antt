use Rattle.std.proofs.Common.{◌+◌, map, vec_items}
use Rattle.circuit.specs.Checked.{of, registers_of}
use Rattle.promise.specs.Machine.{machine_in}
use Rattle.worst_paths.specs.Entries.{AreRows}
use Rattle.worst_paths.proofs.rows.all_rows.Given as goal

abbrev pub invariant-loop-r : goal.invariant-loop-r
invariant-loop-r l = AreRows l.edge (of l.circuit machine_in) l.k l.r (map vec_items (vec_items l.rows))

abbrev pub invariant-loop-g : goal.invariant-loop-g
invariant-loop-g l = AreRows l.edge (of l.circuit machine_in) l.k (registers_of l.circuit + l.g) (map vec_items (vec_items l.rows))
