use Rattle.std.proofs.Common.{not, sym, ap}
use Rattle.lines.specs.Words.{ink}
use Rattle.lines.proofs.PrefixLaws.{one_more, stopped, all_pass}
use Rattle.lines.proofs.inked.Goals as goal

pub loop-n-preserved : goal.loop-n-preserved
loop-n-preserved c = one_more ink _ _ c.loop-n.invariant c.loop-n-test.true (ap not (sym c.if-not-is_blank.ensures))

pub returns-else-not-is_blank-clause-count : goal.returns-else-not-is_blank-clause-count
returns-else-not-is_blank-clause-count c = stopped ink _ _ c.loop-n.invariant c.loop-n-test.true (ap not (sym c.if-not-is_blank.ensures))

pub returns-after-loop-n-clause-count : goal.returns-after-loop-n-clause-count
returns-after-loop-n-clause-count c = all_pass ink _ _ c.loop-n.invariant c.loop-n-test.false
