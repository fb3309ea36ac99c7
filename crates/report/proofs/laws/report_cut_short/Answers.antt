use Rattle.report.proofs.CutLaws.{report_cut_short}
use Rattle.report.proofs.laws.report_cut_short.Goals as goal

pub returns : goal.returns
returns c = report_cut_short
