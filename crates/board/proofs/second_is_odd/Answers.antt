use Rattle.board.proofs.Capturing as laws
use Rattle.board.proofs.second_is_odd.Goals as goal

pub returns : goal.returns
returns c = laws.second_is_odd
