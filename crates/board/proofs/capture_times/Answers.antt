use Rattle.board.proofs.Capturing as laws
use Rattle.board.proofs.capture_times.Goals as goal

pub returns : goal.returns
returns c = laws.capture_times
