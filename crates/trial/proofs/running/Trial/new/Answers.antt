use Rattle.std.proofs.Common.{arith, refl}
use Rattle.trial.proofs.running.Trial.new.Goals as goal
use Rattle.trial.proofs.Moments.{run_of}

pub invariant_of-result : goal.invariant_of-result
invariant_of-result c = record { standing = ∣ c.requires ∣₁; few = omega arith; within = omega arith; small = omega arith; end = omega arith }

pub returns : goal.returns
returns c =
    let circuit = c.args.bench.circuit in
    record { begun = record { bench_same = refl; is_run = run_of c.args.bench.script.now circuit.gates.now circuit.registers.now circuit.times.now c.requires.ready; moment = refl; done = refl }; room_same = refl }
