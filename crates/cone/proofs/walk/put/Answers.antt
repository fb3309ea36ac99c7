use Rattle.std.proofs.Common.{refl, arith}
use Rattle.circuit.proofs.Known.{sound_of}
use Rattle.path.proofs.Telling.{told_back, told_source_lent}
use Rattle.path.proofs.Writing.{none_yet, one_step, at_least, all_written}
use Rattle.cone.proofs.Marking.{here}
use Rattle.cone.proofs.TimeLaws.{back_known}
use Rattle.cone.proofs.Walking.{cone_here, cone_back}
use Rattle.cone.proofs.walk.put.Goals as goal

pub loop-at-init : goal.loop-at-init
loop-at-init c = record { inside = c.requires.signal; cone = here c.args.circuit c.args.to c.requires.signal; sofar = rw c.requires.steps (none_yet _ _ _ (omega (arith, c.requires.steps))) }

pub back-step-requires-clause-known : goal.back-step-requires-clause-known
back-step-requires-clause-known c =
    let at = cone_here c.args.circuit c.args.to c.loop-at.at _ c.register_count-n.ensures (omega arith) c.loop-at.invariant.inside c.loop-at.invariant.cone in
    back_known c.args.edge c.args.circuit c.args.to c.args.times.now c.requires.signal c.requires.known _ at.0 at.1

pub put_step-requires : goal.put_step-requires
put_step-requires c =
    let m = c.args.circuit in
    let here = rw (told_back c.args.edge m.gates.now m.registers.now m.times.now (sound_of m) _ c.loop-at.at c.register_count-n.ensures (omega arith) c.loop-at.invariant.inside _ _ c.back-step.ensures.second c.back-step.ensures.from) at c.loop-at.invariant.sofar in
    let l = at_least here in
    (omega arith, l.1)

pub overflow_sub-i : goal.overflow_sub-i
overflow_sub-i c =
    let m = c.args.circuit in
    let here = rw (told_back c.args.edge m.gates.now m.registers.now m.times.now (sound_of m) _ c.loop-at.at c.register_count-n.ensures (omega arith) c.loop-at.invariant.inside _ _ c.back-step.ensures.second c.back-step.ensures.from) at c.loop-at.invariant.sofar in
    let l = at_least here in
    omega arith

pub loop-at-preserved : goal.loop-at-preserved
loop-at-preserved c =
    let m = c.args.circuit in
    let at = cone_here m c.args.to c.loop-at.at _ c.register_count-n.ensures (omega arith) c.loop-at.invariant.inside c.loop-at.invariant.cone in
    let here = rw (told_back c.args.edge m.gates.now m.registers.now m.times.now (sound_of m) _ c.loop-at.at c.register_count-n.ensures (omega arith) c.loop-at.invariant.inside _ _ c.back-step.ensures.second c.back-step.ensures.from) at c.loop-at.invariant.sofar in
    record {
      inside = omega (arith, c.back-step.ensures.before);
      cone = cone_back m c.args.to c.requires.signal _ _ _ at.0 at.1 c.back-step.ensures.from;
      sofar = rw c.put_step.ensures (one_step here _ _ refl (omega arith));
    }

pub returns : goal.returns
returns c =
    let m = c.args.circuit in
    let here = rw (told_source_lent c.args.edge m.gates.now m.registers.now m.times.now (sound_of m) c.loop-at.at (omega arith)) at c.loop-at.invariant.sofar in
    all_written here _ refl
