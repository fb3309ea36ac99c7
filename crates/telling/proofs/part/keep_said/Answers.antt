use Rattle.std.proofs.Common.{arith}
use Rattle.telling.proofs.Keeping.{kept_on, none_kept, kept_more, kept_same}
use Rattle.telling.proofs.part.keep_said.Goals as goal
use Rattle.telling.proofs.part.keep_said.Goals.{then-who-said, else-who-said}

pub loop-due-init : goal.loop-due-init
loop-due-init c = none_kept _ _ _ _

pub loop-due-preserved : goal.loop-due-preserved
loop-due-preserved c =
    let due = c.loop-due-test.true in
    elim c.if-who-said.branch [
      | then-who-said w ↦ rw w.said-is (kept_more c.loop-due.invariant due (omega arith) w.if-who-said.true)
      | else-who-said w ↦ rw w.said-is (kept_same c.loop-due.invariant due (omega arith) w.if-who-said.false)
    ]

pub returns-else-from-t : goal.returns-else-from-t
returns-else-from-t c = kept_on c.loop-due.invariant c.requires (λ h. omega arith)

pub returns-after-loop-due : goal.returns-after-loop-due
returns-after-loop-due c = kept_on c.loop-due.invariant c.requires (λ h. absurd (omega arith))
