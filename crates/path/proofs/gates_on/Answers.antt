use Rattle.std.proofs.Common.{length, ap, arith}
use Rattle.circuit.proofs.Known.{sound_of}
use Rattle.path.proofs.Telling.{told_back, told_source_lent}
use Rattle.path.proofs.gates_on.Goals as goal

pub loop-at-preserved : goal.loop-at-preserved
loop-at-preserved c =
    let m = c.args.a.circuit in
    let e = told_back c.args.edge m.gates.now m.registers.now m.times.now (sound_of m) _ c.loop-at.at c.register_count-n.ensures (omega arith) c.loop-at.invariant.0 _ _ c.back-at.ensures.second c.back-at.ensures.from in
    (omega (arith, c.back-at.ensures.before), omega (arith, c.back-at.ensures.before), omega (arith, ap (λ x. length x.1) e))

pub returns : goal.returns
returns c =
    let m = c.args.a.circuit in
    let e = told_source_lent c.args.edge m.gates.now m.registers.now m.times.now (sound_of m) c.loop-at.at (omega arith) in
    record { steps = omega (arith, ap (λ x. length x.1) e); few = omega arith }
