use Rattle.std.proofs.Common.{ap, ◌∙◌}
use Rattle.cone.proofs.sums.signal_of.Goals as goal

pub returns : goal.returns
returns c = ap (λ x. x.signal) (c.from.ensures ∙ c.registers.ensures.each _ c.requires)
