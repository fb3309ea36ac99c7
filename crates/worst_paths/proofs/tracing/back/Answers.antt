use Rattle.std.proofs.Common.{◌≡◌, ◌-◌, ◌<◌, ◌∙◌, eqb, arith}
use Rattle.std.proofs.lemmas.Bool.{ne_eqb}
use Rattle.circuit.specs.Checked.{of, gates_of}
use Rattle.promise.specs.Machine.{machine_in}
use Rattle.path.specs.Path.{input}
use Rattle.worst_paths.specs.Entries.{IsEntry}
use Rattle.worst_paths.proofs.EntryLaws.{zip_length}
use Rattle.worst_paths.proofs.LentRows.{row_at, input_before}
use Rattle.worst_paths.proofs.Traces.{entry_at, step_back}
use Rattle.worst_paths.proofs.tracing.back.Goals.{then-second, else-second}
use Rattle.worst_paths.proofs.tracing.back.Goals as goal

pub index-entry-requires : goal.index-entry-requires
index-entry-requires c =
    let row = row_at c.args.edge c.args.circuit c.args.k _ c.args.at c.args.rows.now _ c.requires.rows c.requires.inside c.index-rows-at.is in
    let len = zip_length (IsEntry c.args.edge (of c.args.circuit machine_in) c.args.k c.args.at) _ _ row in
    omega (arith, len, c.requires.ranked, c.index-rows-at.result.ok)

pub returns : goal.returns
returns c =
    let row = row_at c.args.edge c.args.circuit c.args.k _ c.args.at c.args.rows.now _ c.requires.rows c.requires.inside c.index-rows-at.is in
    let keeps = entry_at c.args.edge c.args.circuit c.args.k c.args.at c.args.rank _ c.index-entry.result.now row c.requires.ranked c.index-entry.ensures in
    let inside : c.args.at - c.register_count.result < gates_of c.args.circuit = omega arith in
    let gate_is = c.from-gate.ensures ∙ c.gates.ensures.each (c.args.at - c.register_count.result) inside in
    let from : c.if-second.from ≡ input (eqb c.index-entry.result.now.by 1) c.from-gate.result = elim c.if-second.branch [
      | then-second w ↦ rw (w.if-second.true, w.from-is)
      | else-second w ↦ let t = ne_eqb c.index-entry.result.now.by 1 w.if-second.false in rw (t, w.from-is)
    ] in
    let back = step_back c.args.edge c.args.circuit c.args.k c.args.at c.args.rank (c.args.at - c.register_count.result) c.index-entry.result.now c.from-gate.result c.if-second.from keeps (omega arith) inside gate_is from in
    let before = input_before c.args.edge c.args.circuit c.args.k (c.args.at - c.register_count.result) c.from-gate.result (eqb c.index-entry.result.now.by 1) inside gate_is in
    record { is = back.0; ranked = back.1; before = omega (arith, from, before) }
