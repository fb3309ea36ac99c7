use Rattle.report.proofs.WholeLaws.{with_findings}
use Rattle.report.proofs.whole.write.Goals as goal

pub returns : goal.returns
returns c = with_findings c.args.name.now c.args.circuit c.deref.result.now c.text_of.result (rw c.deref.ensures.value c.in_ok-claims.ensures) c.text_of.ensures.reported c.text_of.ensures.again
