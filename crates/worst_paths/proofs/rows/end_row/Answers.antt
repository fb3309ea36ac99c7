use Rattle.std.proofs.Common.{◌≡◌, ◌+◌, ◌<◌, ◌∙◌, suc, vec_items, ap, arith}
use Rattle.std.proofs.lemmas.List.{length-map}
use Rattle.circuit.specs.Checked.{of, signals_of}
use Rattle.circuit.proofs.Known.{sound_of, taken_of}
use Rattle.promise.specs.Machine.{machine_in}
use Rattle.worst_paths.proofs.EntryLaws.{end_row}
use Rattle.worst_paths.proofs.LentRows.{row_at, row_small, if_ok}
use Rattle.worst_paths.proofs.rows.end_row.Goals as goal

pub bounds-rows-register : goal.bounds-rows-register
bounds-rows-register c =
    let is = ap (λ x. x.signal) (c.from-register.ensures ∙ c.registers.ensures.each _ c.requires.inside) in
    omega (arith, is, taken_of c.args.circuit c.args.r c.requires.inside, c.requires.rows.0, length-map c.args.rows.now vec_items)

pub invariant_of-here : goal.invariant_of-here
invariant_of-here c =
    let is = ap (λ x. x.signal) (c.from-register.ensures ∙ c.registers.ensures.each _ c.requires.inside) in
    let inside = taken_of c.args.circuit c.args.r c.requires.inside in
    let here : c.from-register.result.signal < signals_of c.args.circuit = omega arith in
    let row = row_at c.args.edge c.args.circuit c.args.k _ _ c.args.rows.now _ c.requires.rows here c.index-rows-register.is in
    record { fits = λ _ _. rw c.deref.ensures.value (row_small c.args.edge c.args.circuit c.args.k _ _ _ row here (omega (arith, c.shift.ensures))) }

pub returns : goal.returns
returns c =
    let is = ap (λ x. x.signal) (c.from-register.ensures ∙ c.registers.ensures.each _ c.requires.inside) in
    let inside = taken_of c.args.circuit c.args.r c.requires.inside in
    let here : c.from-register.result.signal < signals_of c.args.circuit = omega arith in
    let row = row_at c.args.edge c.args.circuit c.args.k _ _ c.args.rows.now _ c.requires.rows here c.index-rows-register.is in
    let one : c.args.r + 1 ≡ suc c.args.r = omega arith in
    let more = end_row c.args.edge (of c.args.circuit machine_in) c.args.k (sound_of c.args.circuit) c.args.r c.shift.result c.args.ends.now _ c.requires.inside c.shift.ensures c.requires.ends (rw is at row) in
    if_ok _ _ c.merge.result (λ v h. rw h (rw (c.deref.ensures.value, one) more)) c.merge.ensures
