use Rattle.board.proofs.Capturing as laws
use Rattle.board.proofs.two_cycles.Goals as goal

pub returns : goal.returns
returns c = laws.two_cycles
