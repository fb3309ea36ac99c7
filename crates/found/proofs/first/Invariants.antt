use Rattle.std.proofs.Common.{List, ℕ, Contains, length}
use Rattle.lines.specs.Words.{words}
use Rattle.found.proofs.first.Given as goal

abbrev pub decreases-loop-word : goal.decreases-loop-word
decreases-loop-word l = length l.words

abbrev pub invariant-loop-word : goal.invariant-loop-word
invariant-loop-word l = (w : List ℕ) → Contains l.words w → Contains (words l.line) w
