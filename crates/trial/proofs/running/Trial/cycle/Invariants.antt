use Rattle.std.proofs.Common.{◌-◌}
use Rattle.trial.specs.Made.{SameCycle}
use Rattle.trial.proofs.running.Trial.cycle.Given as goal

abbrev pub invariant-loop : goal.invariant-loop
invariant-loop l = SameCycle l.initial.self l.self

abbrev pub decreases-loop : goal.decreases-loop
decreases-loop l = l.self.ends - l.self.moment
