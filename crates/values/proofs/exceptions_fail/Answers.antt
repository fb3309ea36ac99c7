use Rattle.values.proofs.Exceptions as laws
use Rattle.values.proofs.exceptions_fail.Goals as goal

pub returns-clause-two : goal.returns-clause-two
returns-clause-two c = laws.two_exceptions_fail

pub returns-clause-one : goal.returns-clause-one
returns-clause-one c = laws.one_exception_fails
