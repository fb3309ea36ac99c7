use Rattle.std.proofs.Common.{refl, arith}
use Rattle.circuit.proofs.Joined.{small_times}
use Rattle.telling.proofs.clocks_told.first.Goals as goal

pub returns : goal.returns
returns c =
    let k = c.args.bench.circuit in
    let p = small_times k.gates.now k.registers.now k.times.now k.small 0 in
    let clock = c.first_clock-clock.ensures in
    let next = c.next_clock-next.ensures in
    let is = next.value (record { cycle = omega arith; begins = omega arith; clock = omega arith }) 0 refl clock.value in
    record {
      cycle = refl;
      clock = clock.value;
      next = is;
      after = c.next_clock.ensures.value (record { cycle = omega arith; begins = omega arith; clock = omega arith }) 1 refl is;
      take = c.take_of.ensures k.gates.now k.registers.now k.times.now;
    }
