use Rattle.std.proofs.Common.{◌∙◌, ap, arith}
use Rattle.std.proofs.lemmas.Int.{ints}
use Rattle.worst_paths.proofs.listing.required.Goals as goal

pub returns-in-Late : goal.returns-in-Late
returns-in-Late c =
    let early = ap (λ x. x.early) (c.from-register.ensures ∙ c.registers.ensures.each _ c.requires) in
    record { time = rw c.in-Late.is (omega (arith, ints, early)); small = (omega (arith, ints), omega (arith, ints)) }

pub returns-in-Early : goal.returns-in-Early
returns-in-Early c =
    let late = ap (λ x. x.late) (c.from-register.ensures ∙ c.registers.ensures.each _ c.requires) in
    record { time = rw c.in-Early.is (omega (arith, ints, late)); small = (omega (arith, ints), omega (arith, ints)) }
