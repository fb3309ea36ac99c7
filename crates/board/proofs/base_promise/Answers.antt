use Rattle.board.proofs.BaseCase as laws
use Rattle.board.proofs.base_promise.Goals as goal

pub returns : goal.returns
returns c = laws.base_promise
