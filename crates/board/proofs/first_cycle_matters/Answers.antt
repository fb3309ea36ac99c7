use Rattle.board.proofs.FirstCycle as laws
use Rattle.board.proofs.first_cycle_matters.Goals as goal

pub returns : goal.returns
returns c = laws.first_cycle_matters
