use Rattle.std.proofs.Common.{ap, sym, ◌∙◌}
use Rattle.std.proofs.lemmas.Result.{err_from_is_err_and}
use Rattle.fields.proofs.FieldLaws.{number_field, no_number}
use Rattle.delays.specs.Row.{and_then, bit_of}
use Rattle.delays.proofs.row.word_bit.Goals as goal

pub returns-in_err-value : goal.returns-in_err-value
returns-in_err-value c =
    let p = err_from_is_err_and c.from_residual.result c.from_residual.ensures.1 in
    rw (p.1, p.2) (ap (λ r. and_then r bit_of) (sym (no_number _ _ (sym c.in_err-value.ensures))))

pub returns : goal.returns
returns c = c.bit.ensures ∙ ap (λ r. and_then r bit_of) (sym (number_field _ _ (sym c.in_ok-value.ensures)))
