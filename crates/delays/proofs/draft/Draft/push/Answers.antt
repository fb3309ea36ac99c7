use Rattle.delays.proofs.Adding.{pushed, refused}
use Rattle.delays.proofs.draft.Draft.push.Goals as goal

pub returns-then-branch : goal.returns-then-branch
returns-then-branch c = pushed _ _ _ _ _ _ (rw c.if-branch.true at c.in_ok-push.ensures)

pub returns-else-branch : goal.returns-else-branch
returns-else-branch c = refused _ _ _ _ _ _ (rw c.if-branch.false at c.in_ok-push.ensures)
