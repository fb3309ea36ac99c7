use Rattle.std.proofs.Common.{◌-◌, ◌==◌, not, length}
use Rattle.lines.proofs.PrefixLaws.{Passed}
use Rattle.lines.proofs.until.Given as goal

abbrev pub invariant-loop-n : goal.invariant-loop-n
invariant-loop-n l = Passed (λ b. not (b == l.mark)) l.s l.n

abbrev pub decreases-loop-n : goal.decreases-loop-n
decreases-loop-n l = length l.s - l.n
