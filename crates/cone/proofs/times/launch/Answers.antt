use Rattle.std.proofs.Common.{◌∙◌, ap, arith}
use Rattle.cone.proofs.times.launch.Goals as goal

pub returns-in-Late : goal.returns-in-Late
returns-in-Late c =
    let is = ap (λ x. x.late) (c.from-register.ensures ∙ c.registers.ensures.each _ c.requires) in
    rw c.in-Late.is (omega (arith, is))

pub returns-in-Early : goal.returns-in-Early
returns-in-Early c =
    let is = ap (λ x. x.early) (c.from-register.ensures ∙ c.registers.ensures.each _ c.requires) in
    rw c.in-Early.is (omega (arith, is))
