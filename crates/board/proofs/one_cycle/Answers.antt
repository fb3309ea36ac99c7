use Rattle.board.proofs.Cycles as laws
use Rattle.board.proofs.one_cycle.Goals as goal

pub returns : goal.returns
returns c = laws.one_cycle
