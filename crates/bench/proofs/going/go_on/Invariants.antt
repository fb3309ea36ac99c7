use Rattle.std.proofs.Common.{◌-◌}
use Rattle.bench.proofs.going.go_on.Given as goal

abbrev pub decreases-loop-beside : goal.decreases-loop-beside
decreases-loop-beside l = l.watch.trial.ends - l.watch.trial.moment
