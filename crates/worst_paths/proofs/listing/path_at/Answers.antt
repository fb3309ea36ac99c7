use Rattle.std.proofs.Common.{◌<◌, ◌∙◌, rules, w64, ap, sym, arith}
use mir.Val.{SFits}
use Rattle.std.proofs.lemmas.Int.{ints, to_z-of_z}
use Rattle.circuit.specs.Checked.{of, signals_of}
use Rattle.circuit.proofs.Known.{taken_of}
use Rattle.promise.specs.Machine.{machine_in}
use Rattle.worst_paths.specs.WorstPaths.{slack_at, launch_time}
use Rattle.worst_paths.specs.Entries.{IsEntry}
use Rattle.worst_paths.specs.FirstPaths.{ending_at, time}
use Rattle.worst_paths.proofs.EntryLaws.{zip_length}
use Rattle.worst_paths.proofs.LentRows.{row_at}
use Rattle.worst_paths.proofs.Traces.{entry_at}
use Rattle.worst_paths.proofs.listing.path_at.Goals as goal

pub index-requires : goal.index-requires
index-requires c =
    let is = ap (λ x. x.signal) (c.from-register.ensures ∙ c.registers.ensures.each _ c.requires.below) in
    let inside = taken_of c.args.circuit c.args.entry.by c.requires.below in
    let here : c.from-register.result.signal < signals_of c.args.circuit = omega arith in
    let row = row_at c.args.edge c.args.circuit c.args.k _ _ c.args.rows.now _ c.requires.rows here c.index-rows-signal.is in
    let len = zip_length (IsEntry c.args.edge (of c.args.circuit machine_in) c.args.k c.from-register.result.signal) _ _ row in
    let ranked = rw (← is) at c.requires.ranked in
    omega (arith, len, ranked, c.index-rows-signal.result.ok)

pub slack-requires-clause-small : goal.slack-requires-clause-small
slack-requires-clause-small c =
    let is = ap (λ x. x.signal) (c.from-register.ensures ∙ c.registers.ensures.each _ c.requires.below) in
    let inside = taken_of c.args.circuit c.args.entry.by c.requires.below in
    let here : c.from-register.result.signal < signals_of c.args.circuit = omega arith in
    let row = row_at c.args.edge c.args.circuit c.args.k _ _ c.args.rows.now _ c.requires.rows here c.index-rows-signal.is in
    let keeps = entry_at c.args.edge c.args.circuit c.args.k _ c.args.entry.rank _ c.index.result.now row (rw is c.requires.ranked) c.index.ensures in
    let small = keeps.small in
    let few = c.args.circuit.few in
    let some = c.args.circuit.some.1 in
    omega arith

pub returns-clause-path : goal.returns-clause-path
returns-clause-path c =
    let is = ap (λ x. x.signal) (c.from-register.ensures ∙ c.registers.ensures.each _ c.requires.below) in
    ap (ending_at c.args.entry.by) (rw is at c.in_ok-trace.ensures)

pub returns-clause-times : goal.returns-clause-times
returns-clause-times c =
    let m = of c.args.circuit machine_in in
    let is = ap (λ x. x.signal) (c.from-register.ensures ∙ c.registers.ensures.each _ c.requires.below) in
    let inside = taken_of c.args.circuit c.args.entry.by c.requires.below in
    let here : c.from-register.result.signal < signals_of c.args.circuit = omega arith in
    let row = row_at c.args.edge c.args.circuit c.args.k _ _ c.args.rows.now _ c.requires.rows here c.index-rows-signal.is in
    let keeps = entry_at c.args.edge c.args.circuit c.args.k _ c.args.entry.rank _ c.index.result.now row (rw is c.requires.ranked) c.index.ensures in
    let fits : SFits w64 c.slack.result = search rules in
    let small = c.required.ensures.small in
    let required_fits : SFits w64 c.required.result = omega (arith, ints) in
    let arrival = keeps.is_time ∙ ap (time c.args.edge m.circuit (launch_time c.args.edge m)) (sym c.in_ok-trace.ensures) in record {
      slack = to_z-of_z w64 _ fits ∙ c.slack.ensures ∙ ap (slack_at c.args.edge m c.args.entry.by) arrival;
      arrival = arrival;
      required = to_z-of_z w64 _ required_fits ∙ c.required.ensures.time;
    }
