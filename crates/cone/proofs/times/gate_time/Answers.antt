use Rattle.std.proofs.Common.{arith}
use Rattle.cone.proofs.TimeLaws.{gate_time_is}
use Rattle.cone.proofs.times.gate_time.Goals as goal

pub returns-in-Late : goal.returns-in-Late
returns-in-Late c =
    let law = gate_time_is c.args.edge c.args.circuit c.args.k c.requires.gate in
    let is = rw c.in-Late.is at law in
    let one = rw c.in-Late.is at c.input_times-at.ensures.one in
    let two = rw c.in-Late.is at c.input_times-at.ensures.two in
    rw c.in-Late.is (omega (arith, is, one, two, c.max.ensures))

pub returns-in-Early : goal.returns-in-Early
returns-in-Early c =
    let law = gate_time_is c.args.edge c.args.circuit c.args.k c.requires.gate in
    let is = rw c.in-Early.is at law in
    let one = rw c.in-Early.is at c.input_times-at.ensures.one in
    let two = rw c.in-Early.is at c.input_times-at.ensures.two in
    rw c.in-Early.is (omega (arith, is, one, two, c.min.ensures))
