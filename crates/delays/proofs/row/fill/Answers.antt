use Rattle.std.proofs.Common.{inr, arith}
use Rattle.std.proofs.lemmas.Result.{err_from_is_err_and}
use Rattle.delays.proofs.Filling.{too_few, too_many, all_there, bad_bit, next}
use Rattle.delays.proofs.row.fill.Goals as goal

pub returns-then-len-registers : goal.returns-then-len-registers
returns-then-len-registers c = inr (too_many c.loop-word.invariant c.in-Some.ensures.steps (omega arith))

pub returns-in_err-word_bit : goal.returns-in_err-word_bit
returns-in_err-word_bit c =
    let p = err_from_is_err_and c.from_residual.result c.from_residual.ensures.1 in
    let within = c.loop-word.invariant.within in
    rw (p.1, p.2) (inr (bad_bit c.loop-word.invariant c.in-Some.ensures.steps (omega arith) _ c.in_err-word_bit.ensures))

pub loop-word-preserved : goal.loop-word-preserved
loop-word-preserved c =
    let within = c.loop-word.invariant.within in
    rw c.in_ok-push.ensures (next c.loop-word.invariant c.in-Some.ensures.steps (omega arith) _ c.in_ok-word_bit.ensures)

pub returns-then-len-registers-2 : goal.returns-then-len-registers-2
returns-then-len-registers-2 c = inr (too_few c.loop-word.invariant (omega arith) c.in_default.ensures.steps.0)

pub returns : goal.returns
returns c =
    let within = c.loop-word.invariant.within in
    all_there c.loop-word.invariant (omega arith) c.in_default.ensures.steps.0
