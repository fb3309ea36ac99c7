use Rattle.findings.proofs.Numbers as numbers
use Rattle.findings.proofs.findings_fit.Goals as goal

pub returns : goal.returns
returns c = numbers.findings_fit
