use Rattle.std.proofs.Common.{refl, arith}
use Rattle.circuit.proofs.Known.{sound_of}
use Rattle.path.proofs.Telling.{told_back, told_source_lent}
use Rattle.path.proofs.Writing.{none_yet, one_step, at_least, all_written}
use Rattle.path.proofs.put.Goals as goal

pub loop-at-init : goal.loop-at-init
loop-at-init c = (c.requires.signal, rw c.requires.steps (none_yet _ _ _ (omega (arith, c.requires.steps))))

pub put_step-requires : goal.put_step-requires
put_step-requires c =
    let m = c.args.a.circuit in
    let here = rw (told_back c.args.edge m.gates.now m.registers.now m.times.now (sound_of m) _ c.loop-at.at c.register_count-n.ensures (omega arith) c.loop-at.invariant.0 _ _ c.back-step.ensures.second c.back-step.ensures.from) at c.loop-at.invariant.1 in
    let l = at_least here in
    (omega arith, l.1)

pub overflow_sub-i : goal.overflow_sub-i
overflow_sub-i c =
    let m = c.args.a.circuit in
    let here = rw (told_back c.args.edge m.gates.now m.registers.now m.times.now (sound_of m) _ c.loop-at.at c.register_count-n.ensures (omega arith) c.loop-at.invariant.0 _ _ c.back-step.ensures.second c.back-step.ensures.from) at c.loop-at.invariant.1 in
    let l = at_least here in
    omega arith

pub loop-at-preserved : goal.loop-at-preserved
loop-at-preserved c =
    let m = c.args.a.circuit in
    let here = rw (told_back c.args.edge m.gates.now m.registers.now m.times.now (sound_of m) _ c.loop-at.at c.register_count-n.ensures (omega arith) c.loop-at.invariant.0 _ _ c.back-step.ensures.second c.back-step.ensures.from) at c.loop-at.invariant.1 in
    (omega (arith, c.back-step.ensures.before), rw c.put_step.ensures (one_step here _ _ refl (omega arith)))

pub returns : goal.returns
returns c =
    let m = c.args.a.circuit in
    let here = rw (told_source_lent c.args.edge m.gates.now m.registers.now m.times.now (sound_of m) c.loop-at.at (omega arith)) at c.loop-at.invariant.1 in
    all_written here _ refl
