use Rattle.std.proofs.Common.{◌∙◌}
use Rattle.trial.proofs.Seen.{signal_seen}
use Rattle.trial.proofs.running.Trial.signal.Goals as goal

pub returns-then-self-gt0 : goal.returns-then-self-gt0
returns-then-self-gt0 c = c.get.ensures ∙ signal_seen c.args.self.now c.if-self-gt0.true c.args.k
