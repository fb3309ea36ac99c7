use Rattle.std.proofs.Common.{rules}
use Rattle.claim.proofs.NumberLaws.{parsed, no_text}
use Rattle.claim.proofs.numbers.integer.Goals as goal

pub returns-in_default : goal.returns-in_default
returns-in_default c = no_text c.args.word.now c.in_default.ensures.cases.0

pub returns : goal.returns
returns c = parsed c.args.word.now c.parse.result c.map_err.result (rw (← c.in-Ok.ensures.cases.0) c.parse.ensures.value.0) (search rules)
