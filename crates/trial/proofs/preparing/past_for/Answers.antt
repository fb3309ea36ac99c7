use Rattle.std.proofs.Common.{◌≡◌, ◌+◌, max, refl, arith}
use Rattle.circuit.specs.Lent.{setup, output_late}
use Rattle.promise.specs.Machine.{machine_in}
use Rattle.step.specs.Stands.{Wide}
use Rattle.trial.proofs.Starts.{made_so, wide_enough}
use Rattle.trial.proofs.preparing.past_for.Goals as goal

pub returns : goal.returns
returns c =
    let k = c.args.circuit in
    let delay = c.greatest_delay-delay.result in
    let back : c.max.result ≡ max (output_late k.times.now + setup k.times.now) delay = omega (arith, c.max.ensures) in
    made_so c.new.result _ (Wide (machine_in k.gates.now k.registers.now k.times.now))
    (λ h fresh. wide_enough k.gates.now k.registers.now k.times.now _ _ delay h (rw c.signal_count.ensures at fresh) refl back c.greatest_delay-delay.ensures) c.new.ensures
