use Rattle.cone.proofs.NoMarks.{none_marked}
use Rattle.cone.proofs.report.register_report.Goals as goal

pub mark_cone-requires-clause-none : goal.mark_cone-requires-clause-none
mark_cone-requires-clause-none c k = none_marked 17408 k
