use Rattle.board.proofs.Capturing as laws
use Rattle.board.proofs.longer_period.Goals as goal

pub returns : goal.returns
returns c = laws.longer_period
