use Rattle.std.proofs.Common.{length, ap, arith}
use Rattle.circuit.proofs.Known.{sound_of}
use Rattle.path.proofs.Telling.{told_back, told_source_lent}
use Rattle.cone.proofs.Marking.{here}
use Rattle.cone.proofs.TimeLaws.{back_known}
use Rattle.cone.proofs.Walking.{cone_here, cone_back}
use Rattle.cone.proofs.walk.gates_on.Goals as goal

pub loop-at-init : goal.loop-at-init
loop-at-init c = record { inside = c.requires.signal; cone = here c.args.circuit c.args.to c.requires.signal; few = omega arith; steps = omega arith }

pub back-at-requires-clause-known : goal.back-at-requires-clause-known
back-at-requires-clause-known c =
    let at = cone_here c.args.circuit c.args.to c.loop-at.at _ c.register_count-n.ensures (omega arith) c.loop-at.invariant.inside c.loop-at.invariant.cone in
    back_known c.args.edge c.args.circuit c.args.to c.args.times.now c.requires.signal c.requires.known _ at.0 at.1

pub loop-at-preserved : goal.loop-at-preserved
loop-at-preserved c =
    let m = c.args.circuit in
    let at = cone_here m c.args.to c.loop-at.at _ c.register_count-n.ensures (omega arith) c.loop-at.invariant.inside c.loop-at.invariant.cone in
    let e = told_back c.args.edge m.gates.now m.registers.now m.times.now (sound_of m) _ c.loop-at.at c.register_count-n.ensures (omega arith) c.loop-at.invariant.inside _ _ c.back-at.ensures.second c.back-at.ensures.from in
    record {
      inside = omega (arith, c.back-at.ensures.before);
      cone = cone_back m c.args.to c.requires.signal _ _ _ at.0 at.1 c.back-at.ensures.from;
      few = omega (arith, c.back-at.ensures.before);
      steps = omega (arith, ap (λ x. length x.1) e);
    }

pub returns : goal.returns
returns c =
    let m = c.args.circuit in
    let e = told_source_lent c.args.edge m.gates.now m.registers.now m.times.now (sound_of m) c.loop-at.at (omega arith) in
    omega (arith, ap (λ x. length x.1) e)
