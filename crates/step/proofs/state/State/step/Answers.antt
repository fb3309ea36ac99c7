use Rattle.std.proofs.Common.{refl, arith}
use Rattle.step.proofs.Going.{whole_moment}
use Rattle.step.proofs.state.State.step.Goals as goal

pub returns : goal.returns
returns c = ((omega arith, omega arith, omega arith, omega arith), whole_moment c.registers_now.ensures c.gates_now.ensures refl refl)
