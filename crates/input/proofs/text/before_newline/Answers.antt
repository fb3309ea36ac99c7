use Rattle.std.proofs.Common.{not, ap}
use Rattle.std.proofs.lemmas.Bool.{eq-eqb, ne_eqb}
use Rattle.lines.specs.Words.{inline}
use Rattle.lines.proofs.PrefixLaws.{one_more, stopped, all_pass}
use Rattle.input.proofs.text.before_newline.Goals as goal

pub loop-n-preserved : goal.loop-n-preserved
loop-n-preserved c = one_more inline _ _ c.loop-n.invariant c.loop-n-test.true (ap not (ne_eqb _ _ c.if-s-n-ne10.true))

pub returns-else-s-n-ne10-clause-count : goal.returns-else-s-n-ne10-clause-count
returns-else-s-n-ne10-clause-count c = stopped inline _ _ c.loop-n.invariant c.loop-n-test.true (ap not (eq-eqb _ _ c.if-s-n-ne10.false))

pub returns-after-loop-n-clause-count : goal.returns-after-loop-n-clause-count
returns-after-loop-n-clause-count c = all_pass inline _ _ c.loop-n.invariant c.loop-n-test.false
