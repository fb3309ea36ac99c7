use Rattle.std.proofs.Common.{◌∙◌, inl, inr, arith}
use Rattle.std.proofs.lemmas.Result.{err_from_is_err_and}
use Rattle.lines.proofs.WordLaws.{end_of_end}
use Rattle.text.proofs.read.Goals as goal

pub returns-in_err-draft : goal.returns-in_err-draft
returns-in_err-draft c =
    let p = err_from_is_err_and c.from_residual.result c.from_residual.ensures.1 in
    rw (p.1, p.2) (rw (c.new-rest.ensures.0, c.new-rest.ensures.1) at c.in_err-draft.ensures)

pub returns-in_err-lines : goal.returns-in_err-lines
returns-in_err-lines c =
    let p = err_from_is_err_and c.from_residual-in_err-lines.result c.from_residual-in_err-lines.ensures.1 in
    let opens = rw (c.in-Some.is, c.new-rest.ensures.0, c.new-rest.ensures.1) at c.in_ok-draft.ensures in
    rw (p.1, p.2) (elim c.in_err-lines.ensures [ inl memory ↦ inl memory | inr e ↦ inr (opens.0 ∙ e) ])

pub returns : goal.returns
returns c =
    let opens = rw (c.in-Some.is, c.new-rest.ensures.0, c.new-rest.ensures.1) at c.in_ok-draft.ensures in
    let e = c.in_ok-lines.ensures in
    (opens.0 ∙ e.0, omega (arith, opens.1, e.1), end_of_end _ _ _ (omega (arith, opens.1)) e.1 opens.2 e.2)
