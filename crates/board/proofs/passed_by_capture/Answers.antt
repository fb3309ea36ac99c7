use Rattle.board.proofs.Capturing as laws
use Rattle.board.proofs.passed_by_capture.Goals as goal

pub returns : goal.returns
returns c = laws.passed_by_capture
