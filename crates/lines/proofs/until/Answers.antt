use Rattle.std.proofs.Common.{◌==◌, not, ap}
use Rattle.std.proofs.lemmas.Bool.{eq-eqb, ne_eqb}
use Rattle.lines.proofs.PrefixLaws.{one_more, stopped, all_pass}
use Rattle.lines.proofs.until.Goals as goal

pub loop-n-preserved : goal.loop-n-preserved
loop-n-preserved c = one_more (λ b. not (b == c.args.mark)) _ _ c.loop-n.invariant c.loop-n-test.true (ap not (ne_eqb _ _ c.if-s-n.true))

pub returns-else-s-n-clause-count : goal.returns-else-s-n-clause-count
returns-else-s-n-clause-count c = stopped (λ b. not (b == c.args.mark)) _ _ c.loop-n.invariant c.loop-n-test.true (ap not (eq-eqb _ _ c.if-s-n.false))

pub returns-after-loop-n-clause-count : goal.returns-after-loop-n-clause-count
returns-after-loop-n-clause-count c = all_pass (λ b. not (b == c.args.mark)) _ _ c.loop-n.invariant c.loop-n-test.false
