use Rattle.std.proofs.Common.{refl}
use Rattle.promise.proofs.Keeping.{promise_kept}
use Rattle.promise.specs.Machine.{machine_in, Passed}
use Rattle.promise.proofs.Lent.{formed_in}
use Rattle.signoff.proofs.judge.Goals as goal

pub returns : goal.returns
returns c =
    let m = c.args.a.circuit in
    let passed : Passed (machine_in m.gates.now m.registers.now m.times.now) =
    record {
      formed = formed_in m.gates.now m.registers.now m.times.now m.placed m.ranged m.tied m.ordered;
      setup_kept = c.in_default.ensures;
      hold_kept = c.in_default-first_missed.ensures;
    } in
    (passed, promise_kept _ passed, refl)
