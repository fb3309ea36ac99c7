use Rattle.values.proofs.Bounding as laws
use Rattle.values.proofs.bounds_hold.Goals as goal

pub returns-clause-holds : goal.returns-clause-holds
returns-clause-holds c = laws.bounds_hold

pub returns-clause-exact : goal.returns-clause-exact
returns-clause-exact c = laws.bounds_are_exact

pub returns-clause-blocked : goal.returns-clause-blocked
returns-clause-blocked c = laws.blocked_is_not_sensitized

pub returns-clause-opened : goal.returns-clause-opened
returns-clause-opened c = laws.open_is_sensitized
