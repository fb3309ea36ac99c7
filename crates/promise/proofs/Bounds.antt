-- What is passed stays so with bounds within the old ones and with a longer period.
use Rattle.std.proofs.Common.{◌<◌, refl, arith}
use Rattle.arrival.specs.declared.edge.Edge.TheVariants.{Late, Early}
use Rattle.arrival.proofs.ArrivalLaws.{monotone}
use Rattle.promise.specs.Machine.{since, still_for}
use Rattle.promise.specs.Promise.{Narrower, Slower, with_period}

pub narrower : Narrower
narrower new old v passed =
    let less = monotone Late new.circuit old.circuit (since new) (since old) v.formed.sound passed.formed.sound v.circuit_within
    (λ i h. let r : i < old.registers = omega (arith, passed.formed.sources) in omega (arith, v.clock_within i r, v.output_within)) in
    let more = monotone Early new.circuit old.circuit (still_for new) (still_for old) v.formed.sound passed.formed.sound v.circuit_within
    (λ i h. let r : i < old.registers = omega (arith, passed.formed.sources) in omega (arith, v.clock_within i r, v.output_within)) in
    record {
      formed = v.formed;
      setup_kept = λ r h.
          let q : r < old.registers = omega (arith, v.registers_same) in
          rw (v.takes_same r q) (omega (arith, less (old.takes r) (passed.formed.taken r q), passed.setup_kept r q, v.clock_within r q, v.setup_within, v.period_within));
      hold_kept = λ r h.
          let q : r < old.registers = omega (arith, v.registers_same) in
          rw (v.takes_same r q) (omega (arith, more (old.takes r) (passed.formed.taken r q), passed.hold_kept r q, v.clock_within r q, v.hold_within));
    }

pub slower : Slower
slower m p le passed =
    let f = passed.formed in
    narrower (with_period m p) m (record {
      registers_same = refl;
      circuit_within = record { inputs_same = refl; gates_same = refl; gates_within = λ k h. record { one_same = refl; two_same = refl; one_least = omega arith; one_greatest = omega arith; two_least = omega arith; two_greatest = omega arith } };
      formed = record { sources = f.sources; sound = f.sound; taken = f.taken; clocked = f.clocked; output_ordered = f.output_ordered };
      takes_same = λ r h. refl;
      clock_within = λ r h. (omega arith, omega arith);
      output_within = (omega arith, omega arith);
      setup_within = omega arith;
      hold_within = omega arith;
      period_within = le;
    }) passed
