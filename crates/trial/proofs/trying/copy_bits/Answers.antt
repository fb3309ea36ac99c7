use Rattle.std.proofs.Common.{arith}
use Rattle.std.proofs.lemmas.List.{length-take-le}
use Rattle.trial.proofs.Runs.{filled_front}
use Rattle.trial.proofs.trying.copy_bits.Goals as goal

pub returns : goal.returns
returns c =
    let n = length-take-le c.args.n c.args.bits.now c.requires in
    filled_front _ _ _ _ _ (omega (arith, n, c.loop-r.auto.bit-items)) (λ k h. c.loop-r.invariant k (omega (arith, n, c.loop-r-test.false)))
