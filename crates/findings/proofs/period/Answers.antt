use Rattle.std.proofs.Common.{ap, arith}
use Rattle.std.proofs.lemmas.Int.{ints}
use Rattle.circuit.proofs.Known.{whole_of}
use Rattle.claim.specs.declared.kinds.Claim.TheVariants.{Period}
use Rattle.findings.proofs.Small.{small_period}
use Rattle.findings.proofs.period.Goals as goal

pub overflow_cast-result : goal.overflow_cast-result
overflow_cast-result c =
    let m = c.args.circuit in
    let small = small_period m.gates.now m.registers.now m.times.now (whole_of m) c.shortest_period.result c.shortest_period.ensures.shortest in
    omega (arith, ints)

pub returns : goal.returns
returns c =
    let m = c.args.circuit in
    let small = small_period m.gates.now m.registers.now m.times.now (whole_of m) c.shortest_period.result c.shortest_period.ensures.shortest in
    (c.shortest_period.result, c.shortest_period.ensures.shortest, ap Period (omega (arith, ints)))
