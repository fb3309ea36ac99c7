use Rattle.std.proofs.Common.{vec_items}
use Rattle.lines.specs.Words.{words}
use Rattle.delays.proofs.Filling.{Filled}
use Rattle.delays.proofs.row.fill.Given as goal

abbrev pub invariant-loop-word : goal.invariant-loop-word
invariant-loop-word l = Filled l.registers (words l.text) (vec_items l.filled) l.words
