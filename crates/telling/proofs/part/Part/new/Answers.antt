use Rattle.std.proofs.Common.{refl, arith}
use Rattle.telling.proofs.Beginning.{part_new}
use Rattle.telling.proofs.part.Part.new.Goals as goal

pub returns : goal.returns
returns g c = part_new _ (omega (arith, c.in_ok-values.ensures.len, c.in_ok-values.values.ok.0)) c.in_ok-said.ensures refl
