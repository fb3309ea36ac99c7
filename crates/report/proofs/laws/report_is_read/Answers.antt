use Rattle.report.proofs.AgainLaws.{report_is_read}
use Rattle.report.proofs.laws.report_is_read.Goals as goal

pub returns : goal.returns
returns c = report_is_read
