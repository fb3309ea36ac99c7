use Rattle.std.proofs.Common.{sym}
use Rattle.lines.proofs.PrefixLaws.{one_more, stopped, all_pass}
use Rattle.input.specs.Line.{kept}
use Rattle.input.proofs.text.kept.Goals as goal

pub loop-n-preserved : goal.loop-n-preserved
loop-n-preserved c = one_more kept _ _ c.loop-n.invariant c.loop-n-test.true (sym c.if-is_kept.ensures)

pub returns-else-is_kept-clause-count : goal.returns-else-is_kept-clause-count
returns-else-is_kept-clause-count c = stopped kept _ _ c.loop-n.invariant c.loop-n-test.true (sym c.if-is_kept.ensures)

pub returns-after-loop-n-clause-count : goal.returns-after-loop-n-clause-count
returns-after-loop-n-clause-count c = all_pass kept _ _ c.loop-n.invariant c.loop-n-test.false
