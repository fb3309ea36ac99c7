use Rattle.circuit.specs.Checked.{of}
use Rattle.circuit.proofs.Known.{sound_of}
use Rattle.promise.specs.Machine.{machine_in}
use Rattle.worst_paths.proofs.EntryLaws.{source_row}
use Rattle.worst_paths.proofs.rows.source_row.Goals as goal

pub returns : goal.returns
returns c k =
    rw (c.in_ok-push.ensures.items, c.in_ok-row.ensures.items)
    (source_row c.args.edge (of c.args.circuit machine_in) k (sound_of c.args.circuit) c.args.r c.requires _ c.launch_time.ensures.time c.launch_time.ensures.small)
