use Rattle.std.proofs.Common.{◌-◌, length}
use Rattle.telling.proofs.Keeping.{SoFar}
use Rattle.telling.proofs.part.keep_said.Given as goal

abbrev pub invariant-loop-due : goal.invariant-loop-due
invariant-loop-due l = SoFar l.entries l.t l.done l.due l.initial.said l.said

abbrev pub decreases-loop-due : goal.decreases-loop-due
decreases-loop-due l = length l.entries - l.due
