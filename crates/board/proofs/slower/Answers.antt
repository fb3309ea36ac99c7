use Rattle.board.proofs.Comparing as laws
use Rattle.board.proofs.slower.Goals as goal

pub returns : goal.returns
returns c = laws.slower
