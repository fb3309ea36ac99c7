use Rattle.std.proofs.Common.{length}
use Rattle.lines.specs.Words.{words}
use Rattle.fields.proofs.FieldLaws.{Filled}
use Rattle.fields.proofs.read_into.Given as goal

abbrev pub invariant-loop-i : goal.invariant-loop-i
invariant-loop-i l = Filled l.capped (words l.line) l.table_at (length l.fn.out) l.i l.out l.words
