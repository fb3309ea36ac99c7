use Rattle.std.proofs.Common.{◌-◌, length}
use Rattle.lines.proofs.PrefixLaws.{Passed}
use Rattle.lines.specs.Words.{inline}
use Rattle.input.proofs.text.before_newline.Given as goal

abbrev pub invariant-loop-n : goal.invariant-loop-n
invariant-loop-n l = Passed inline l.s l.n

abbrev pub decreases-loop-n : goal.decreases-loop-n
decreases-loop-n l = length l.s - l.n
