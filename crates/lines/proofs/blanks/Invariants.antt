use Rattle.std.proofs.Common.{◌-◌, length}
use Rattle.lines.specs.Words.{blank}
use Rattle.lines.proofs.PrefixLaws.{Passed}
use Rattle.lines.proofs.blanks.Given as goal

abbrev pub invariant-loop-n : goal.invariant-loop-n
invariant-loop-n l = Passed blank l.s l.n

abbrev pub decreases-loop-n : goal.decreases-loop-n
decreases-loop-n l = length l.s - l.n
