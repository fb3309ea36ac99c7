use Rattle.lines.specs.Words.{words}
use Rattle.claim.proofs.CountLaws.{Filled}
use Rattle.claim.proofs.numbers.fill.Given as goal

abbrev pub invariant-loop-number : goal.invariant-loop-number
invariant-loop-number l = Filled (words l.line) l.count l.number-index l.number-items l.words
