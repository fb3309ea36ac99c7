use Rattle.std.proofs.Common.{◌≡◌, ◌≤◌, length}
use Rattle.lines.specs.Words.{lines, IsEnd}
use Rattle.text.specs.Meaning.{drafted, inside}
use Rattle.text.proofs.draft.Draft.lines.Given as goal

abbrev pub invariant-loop-line : goal.invariant-loop-line
invariant-loop-line l =
    (inside l.fn.rest.number (drafted l.fn.self) (lines l.fn.rest.text.now) ≡ inside l.rest.number (drafted l.self) (lines l.rest.text.now))
    × (length l.rest.text.now ≤ length l.fn.rest.text.now)
    × IsEnd l.rest.text.now l.fn.rest.text.now
