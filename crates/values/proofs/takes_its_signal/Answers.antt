use Rattle.values.proofs.Promising.{takes_its_signal}
use Rattle.values.proofs.takes_its_signal.Goals as goal

pub returns : goal.returns
returns c = takes_its_signal
