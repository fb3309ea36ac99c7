use Rattle.std.proofs.Common.{◌-◌, set, ap}
use Rattle.path.proofs.Writing.{bit_is}
use Rattle.cone.proofs.walk.put_step.Goals as goal

pub returns : goal.returns
returns c = ap (λ v. set (set c.args.out.now (c.args.i - 1) v) (c.args.i - 2) c.args.gate) (bit_is _ _ c.from.ensures)
