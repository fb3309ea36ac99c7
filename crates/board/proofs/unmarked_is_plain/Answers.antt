use Rattle.board.proofs.Capturing as laws
use Rattle.board.proofs.unmarked_is_plain.Goals as goal

pub returns : goal.returns
returns c = laws.unmarked_is_plain
