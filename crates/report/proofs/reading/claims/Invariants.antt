use Rattle.std.proofs.Common.{◌≡◌, ◌≤◌, [], length}
use Rattle.std.specs.Prelude.{vec_items}
use Rattle.lines.specs.Words.{lines, IsEnd}
use Rattle.report.specs.Meaning.{claims_from}
use Rattle.report.proofs.reading.claims.Given as goal

abbrev pub invariant-loop-line : goal.invariant-loop-line
invariant-loop-line l =
    (claims_from l.initial.rest.number [] (lines l.initial.rest.text.now) ≡ claims_from l.rest.number (vec_items l.claims) (lines l.rest.text.now))
    × (length l.rest.text.now ≤ length l.initial.rest.text.now)
    × IsEnd l.rest.text.now l.initial.rest.text.now
