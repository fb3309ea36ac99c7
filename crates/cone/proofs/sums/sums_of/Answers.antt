use Rattle.std.proofs.Common.{◌<◌, ◌^◌, arith}
use Rattle.circuit.proofs.Known.{times_small}
use Rattle.cone.proofs.SumLaws.{taken_small}
use Rattle.cone.proofs.sums.sums_of.Goals as goal

pub overflow_add-result : goal.overflow_add-result
overflow_add-result c =
    let time : c.args.time < 2 ^ 34 = omega (arith, c.requires.time, taken_small c.args.edge c.args.circuit c.args.r c.requires.register) in
    omega (arith, times_small c.args.circuit 3)

pub returns-in-Late-clause-few_bits : goal.returns-in-Late-clause-few_bits
returns-in-Late-clause-few_bits c =
    let time : c.args.time < 2 ^ 34 = omega (arith, c.requires.time, taken_small c.args.edge c.args.circuit c.args.r c.requires.register) in
    (omega (arith, times_small c.args.circuit 3), omega arith)

pub returns-in-Early-clause-few_bits : goal.returns-in-Early-clause-few_bits
returns-in-Early-clause-few_bits c =
    let time : c.args.time < 2 ^ 34 = omega (arith, c.requires.time, taken_small c.args.edge c.args.circuit c.args.r c.requires.register) in
    (omega arith, omega arith)
