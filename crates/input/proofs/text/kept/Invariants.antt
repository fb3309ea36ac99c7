use Rattle.std.proofs.Common.{◌-◌, length}
use Rattle.lines.proofs.PrefixLaws.{Passed}
use Rattle.input.specs.Line.{kept}
use Rattle.input.proofs.text.kept.Given as goal

abbrev pub invariant-loop-n : goal.invariant-loop-n
invariant-loop-n l = Passed kept l.s l.n

abbrev pub decreases-loop-n : goal.decreases-loop-n
decreases-loop-n l = length l.s - l.n
