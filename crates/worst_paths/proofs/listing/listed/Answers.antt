use Rattle.std.proofs.Common.{◌≡◌, ◌++◌, ◌∷◌, [], ◌∙◌, vec_items, sym, arith}
use Rattle.std.proofs.lemmas.List.Elements.{All-push}
use Rattle.circuit.specs.Checked.{of}
use Rattle.promise.specs.Machine.{machine_in}
use Rattle.worst_paths.specs.Value.{HasItsTimes}
use Rattle.worst_paths.proofs.Traces.{no_register_path, end_at, listed_more, all_listed}
use Rattle.worst_paths.proofs.listing.listed.Goals as goal

pub path_at-requires-clause-below : goal.path_at-requires-clause-below
path_at-requires-clause-below c =
    let ends = rw (← c.deref-entry-items.ensures.value) at c.in_ok-ends.ensures in
    let here = end_at c.args.edge (of c.args.circuit machine_in) c.args.k c.loop-entry.entry-index c.deref-entry-items.result.now _ ends c.loop-entry-test.true in
    here.1.below

pub path_at-requires-clause-ranked : goal.path_at-requires-clause-ranked
path_at-requires-clause-ranked c =
    let ends = rw (← c.deref-entry-items.ensures.value) at c.in_ok-ends.ensures in
    let here = end_at c.args.edge (of c.args.circuit machine_in) c.args.k c.loop-entry.entry-index c.deref-entry-items.result.now _ ends c.loop-entry-test.true in
    here.1.inside

pub loop-entry-preserved : goal.loop-entry-preserved
loop-entry-preserved c =
    let ends = rw (← c.deref-entry-items.ensures.value) at c.in_ok-ends.ensures in
    let here = end_at c.args.edge (of c.args.circuit machine_in) c.args.k c.loop-entry.entry-index c.deref-entry-items.result.now _ ends c.loop-entry-test.true in
    let one = c.in_ok-path_at.ensures in
    let items : vec_items c.push.new.self ≡ vec_items c.loop-entry.paths ++ (c.in_ok-path_at.field-0 ∷ []) = c.in_ok-push.ensures.items in
    record {
      sofar = rw items (listed_more (vec_items c.loop-entry.paths) c.in_ok-path_at.field-0 _ c.loop-entry.entry-index no_register_path here.0 (one.path ∙ sym here.1.is) c.loop-entry.invariant.sofar);
      times = rw items (All-push (HasItsTimes c.args.edge (of c.args.circuit machine_in)) (vec_items c.loop-entry.paths) c.in_ok-path_at.field-0 c.loop-entry.invariant.times one.times);
    }

pub returns-clause-paths : goal.returns-clause-paths
returns-clause-paths c =
    let ends = rw (← c.deref-entry-items.ensures.value) at c.in_ok-ends.ensures in
    all_listed c.args.edge c.args.circuit c.args.k c.loop-entry.entry-index (vec_items c.loop-entry.paths) c.deref-entry-items.result.now (omega arith) ends c.loop-entry-test.false c.loop-entry.invariant.sofar
