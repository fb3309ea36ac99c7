use Rattle.std.proofs.Common.{◌∙◌, map, vec_items, ap, sym, arith}
use Rattle.std.proofs.lemmas.List.{append-nil}
use Rattle.circuit.specs.Checked.{of}
use Rattle.circuit.proofs.Known.{sound_of}
use Rattle.promise.specs.Machine.{machine_in}
use Rattle.path.specs.Path.{Steps}
use Rattle.worst_paths.specs.FirstPaths.{SignalPath}
use Rattle.worst_paths.specs.Value.{step_of}
use Rattle.worst_paths.proofs.Traces.{at_source, pins_reversed}
use Rattle.worst_paths.proofs.tracing.traced_path.Goals as goal

pub returns : goal.returns
returns c =
    let here = at_source c.args.edge (of c.args.circuit machine_in) c.args.k c.loop-at.at c.loop-at.rank (sound_of c.args.circuit) (omega arith) c.loop-at.invariant.ranked in
    let pins = map step_of (vec_items c.loop-at.pins) in
    let back = pins_reversed (vec_items c.loop-at.pins) _ c.reverse.ensures.items in
    ap (λ (q : Steps). let y : SignalPath = (c.loop-at.at, q) in y) (back ∙ sym (append-nil pins)) ∙ rw here at c.loop-at.invariant.sofar
