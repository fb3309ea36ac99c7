use Rattle.std.proofs.Common.{arith, rules}
use Rattle.lines.proofs.NumberLaws.{one_more}
use Rattle.lines.proofs.leading.Goals as goal

pub loop-i-preserved : goal.loop-i-preserved
loop-i-preserved c = record { within = omega arith; value = search (rules, one_more) }
