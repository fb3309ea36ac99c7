use Rattle.std.proofs.Common.{◌+◌, ◌^◌, add-one, arith}
use Rattle.circuit.specs.Lent.{period}
use Rattle.circuit.proofs.Joined.{small_times}
use Rattle.std.proofs.lemmas.Nat.{mul-le}
use Rattle.fitting.proofs.walk.Goals as goal

pub loop-n-preserved : goal.loop-n-preserved
loop-n-preserved c =
    let k = c.args.bench.circuit in
    let p = small_times k.gates.now k.registers.now k.times.now k.small 0 in
    let far = mul-le (c.loop-n.n + 1) (period k.times.now) (2 ^ 32) 1000000 (omega arith) p in
    let b = c.next_clock-c.ensures.bound in
    (c.next_clock-c.ensures.value (record { cycle = omega arith; begins = omega arith; clock = omega (arith, c.loop-n.invariant.1) }) c.loop-n.n (add-one c.loop-n.n) c.loop-n.invariant.0, omega (arith, c.loop-n.invariant.1))
