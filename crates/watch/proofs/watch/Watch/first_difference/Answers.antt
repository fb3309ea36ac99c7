use Rattle.watch.proofs.Beside.{differs, never}
use Rattle.watch.proofs.watch.Watch.first_difference.Goals as goal

pub returns-clause-first : goal.returns-clause-first
returns-clause-first c = differs c.args.self.now _ (rw (c.deref.ensures.value, c.deref-2.ensures.value) at c.first_other.ensures)

pub returns-clause-passed : goal.returns-clause-passed
returns-clause-passed c = never c.args.self.now _ (differs c.args.self.now _ (rw (c.deref.ensures.value, c.deref-2.ensures.value) at c.first_other.ensures))
