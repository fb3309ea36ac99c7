use Rattle.std.proofs.Common.{◌-◌, length}
use Rattle.lines.specs.Words.{ink}
use Rattle.lines.proofs.PrefixLaws.{Passed}
use Rattle.lines.proofs.inked.Given as goal

abbrev pub invariant-loop-n : goal.invariant-loop-n
invariant-loop-n l = Passed ink l.s l.n

abbrev pub decreases-loop-n : goal.decreases-loop-n
decreases-loop-n l = length l.s - l.n
