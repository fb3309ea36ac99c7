use Rattle.std.proofs.Common.{◌∙◌, true, false, vec_items, arith}
use Rattle.std.proofs.lemmas.List.{length-map}
use Rattle.worst_paths.proofs.LentRows.{input_before, input_row, input_small, one_gate, if_ok}
use Rattle.worst_paths.proofs.rows.gate_row.Goals as goal

pub bounds-rows-gate : goal.bounds-rows-gate
bounds-rows-gate c =
    let is = c.from-gate.ensures ∙ c.gates.ensures.each _ c.requires.inside in
    omega (arith, input_before c.args.edge c.args.circuit c.args.k c.args.g _ false c.requires.inside is, c.requires.rows.0, length-map c.args.rows.now vec_items)

pub invariant_of-one : goal.invariant_of-one
invariant_of-one c =
    let is = c.from-gate.ensures ∙ c.gates.ensures.each _ c.requires.inside in
    let row = input_row c.args.edge c.args.circuit c.args.k c.args.g _ false c.args.rows.now _ c.requires.inside is c.requires.rows c.index-rows-gate.is in
    record { fits = λ _ _. rw c.deref.ensures.value (input_small c.args.edge c.args.circuit c.args.k c.args.g _ false _ _ c.requires.inside is (c.from.ensures ∙ c.delays-first.ensures.one) row) }

pub bounds-rows-gate-2 : goal.bounds-rows-gate-2
bounds-rows-gate-2 c =
    let is = c.from-gate.ensures ∙ c.gates.ensures.each _ c.requires.inside in
    omega (arith, input_before c.args.edge c.args.circuit c.args.k c.args.g _ true c.requires.inside is, c.requires.rows.0, length-map c.args.rows.now vec_items)

pub invariant_of-two : goal.invariant_of-two
invariant_of-two c =
    let is = c.from-gate.ensures ∙ c.gates.ensures.each _ c.requires.inside in
    let row = input_row c.args.edge c.args.circuit c.args.k c.args.g _ true c.args.rows.now _ c.requires.inside is c.requires.rows c.index-rows-gate-2.is in
    record { fits = λ _ _. rw c.deref-2.ensures.value (input_small c.args.edge c.args.circuit c.args.k c.args.g _ true _ _ c.requires.inside is (c.from-2.ensures ∙ c.delays-first.ensures.two) row) }

pub returns : goal.returns
returns c =
    let is = c.from-gate.ensures ∙ c.gates.ensures.each _ c.requires.inside in
    let one = input_row c.args.edge c.args.circuit c.args.k c.args.g _ false c.args.rows.now _ c.requires.inside is c.requires.rows c.index-rows-gate.is in
    let two = input_row c.args.edge c.args.circuit c.args.k c.args.g _ true c.args.rows.now _ c.requires.inside is c.requires.rows c.index-rows-gate-2.is in
    let here = one_gate c.args.edge c.args.circuit c.args.k c.args.g _ _ _ _ _ c.requires.inside is (c.from.ensures ∙ c.delays-first.ensures.one) (c.from-2.ensures ∙ c.delays-first.ensures.two) one two in
    if_ok _ _ c.merge.result (λ v h. rw h (rw (c.deref.ensures.value, c.deref-2.ensures.value) here)) c.merge.ensures
