use Rattle.std.proofs.Common.{inl, inr, vec_items, string_bytes}
use Rattle.wording.specs.Line.{LineOf}
use Rattle.wording.specs.Words.{titled}
use Rattle.answer.proofs.judge.Goals as goal
use Rattle.answer.proofs.judge.Goals.{in-TooLate, in-TooEarly}

pub returns-clause-line : goal.returns-clause-line
returns-clause-line c =
    let says : LineOf (titled (vec_items c.args.draft.now.name)) c.match-verdict.word (string_bytes c.in_ok-line.field-0) = rw c.deref-2.ensures.value at c.in_ok-line.ensures in
    elim c.match-verdict.branch [
      | in-TooLate w ↦ inl (rw w.word-is at says)
      | in-TooEarly w ↦ inr (inl (rw w.word-is at says))
    ]

pub returns-in-Passed-clause-passed : goal.returns-in-Passed-clause-passed
returns-in-Passed-clause-passed c =
    let t = c.taken-circuit.ensures in
    let s = rw (t.0, t.1, t.2, c.in-Passed.is) at c.verdict_on-verdict.ensures in
    ((c.requires, s.0), s.1)
