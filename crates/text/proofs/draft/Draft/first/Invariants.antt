use Rattle.std.proofs.Common.{◌≡◌, ◌≤◌, length}
use Rattle.lines.specs.Words.{lines, IsEnd}
use Rattle.text.specs.Meaning.{first_circuit}
use Rattle.text.proofs.draft.Draft.first.Given as goal

abbrev pub invariant-loop-line : goal.invariant-loop-line
invariant-loop-line l =
    (first_circuit l.fn.rest.number (lines l.fn.rest.text.now) ≡ first_circuit l.rest.number (lines l.rest.text.now))
    × (length l.rest.text.now ≤ length l.fn.rest.text.now)
    × IsEnd l.rest.text.now l.fn.rest.text.now
