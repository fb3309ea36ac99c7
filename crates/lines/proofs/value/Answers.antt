use Rattle.std.proofs.Common.{arith}
use Rattle.lines.proofs.NumberLaws.{done, large, no_number}
use Rattle.lines.proofs.value.Goals as goal

pub returns-then-digits-eq0 : goal.returns-then-digits-eq0
returns-then-digits-eq0 c = no_number c.args.word.now c.leading-n.result.1 c.leading-n.ensures.stops c.then-digits-eq0.either

pub returns-then-n-eq-LIMIT : goal.returns-then-n-eq-LIMIT
returns-then-n-eq-LIMIT c =
    large c.args.word.now c.leading-n.result.1 c.leading-n.result.0 (omega arith) c.if-digits-word.false c.leading-n.ensures.value (omega arith)

pub returns : goal.returns
returns c =
    done c.args.word.now c.leading-n.result.1 c.leading-n.result.0 (omega arith) c.if-digits-word.false c.leading-n.ensures.value
    (omega (arith, c.leading-n.ensures.value.1, c.if-n-eq-LIMIT.false))
