use Rattle.std.proofs.Common.{ap, ◌∙◌, arith}
use Rattle.std.proofs.lemmas.Int.{ints}
use Rattle.slack.proofs.Times.{taken_time}
use Rattle.slack.proofs.margin.arrival_at.Goals as goal

pub overflow_cast-result : goal.overflow_cast-result
overflow_cast-result c =
    let t = taken_time c.args.edge c.args.a.circuit c.on.result.now c.on.ensures.each c.args.r _ c.requires (ap (λ x. x.signal) (c.from-register.ensures ∙ c.registers.ensures.each _ c.requires)) in
    omega (arith, ints, t.1)

pub returns : goal.returns
returns c =
    let t = taken_time c.args.edge c.args.a.circuit c.on.result.now c.on.ensures.each c.args.r _ c.requires (ap (λ x. x.signal) (c.from-register.ensures ∙ c.registers.ensures.each _ c.requires)) in
    record { time = omega (arith, ints, t.0, t.1); small = omega (arith, ints, t.1) }
