use Rattle.findings.proofs.Alike.{findings_alike}
use Rattle.findings.proofs.findings_are_one.Goals as goal

pub returns : goal.returns
returns c = findings_alike
