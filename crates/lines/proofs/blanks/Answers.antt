use Rattle.std.proofs.Common.{sym}
use Rattle.lines.specs.Words.{blank}
use Rattle.lines.proofs.PrefixLaws.{one_more, stopped, all_pass}
use Rattle.lines.proofs.blanks.Goals as goal

pub loop-n-preserved : goal.loop-n-preserved
loop-n-preserved c = one_more blank _ _ c.loop-n.invariant c.loop-n-test.true (sym c.if-is_blank.ensures)

pub returns-else-is_blank-clause-count : goal.returns-else-is_blank-clause-count
returns-else-is_blank-clause-count c = stopped blank _ _ c.loop-n.invariant c.loop-n-test.true (sym c.if-is_blank.ensures)

pub returns-after-loop-n-clause-count : goal.returns-after-loop-n-clause-count
returns-after-loop-n-clause-count c = all_pass blank _ _ c.loop-n.invariant c.loop-n-test.false
