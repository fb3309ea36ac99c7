use Rattle.std.proofs.Common.{arith}
use Rattle.std.proofs.lemmas.List.{take_rest}
use Rattle.circuit.proofs.Known.{sound_of}
use Rattle.drawing.proofs.Settling.{none_yet, all_done, room, inputs, one_more}
use Rattle.drawing.proofs.settle_gates.Goals as goal

pub loop-gate-init : goal.loop-gate-init
loop-gate-init c = rw c.register_count-at.ensures (none_yet _ _ (sound_of c.args.circuit) _)

pub output_of-requires : goal.output_of-requires
output_of-requires c =
    let m = c.args.circuit in
    let e = c.in-Some.ensures.cases in
    let h = room _ _ (sound_of m) _ m.shaped.0 _ _ _ c.loop-gate.invariant e.enough in
    let i = inputs _ _ (sound_of m) _ m.shaped.0 _ _ _ c.loop-gate.invariant e.enough _ e.same _ c.from.ensures in
    record { one = omega arith; two = omega arith }

pub loop-gate-preserved : goal.loop-gate-preserved
loop-gate-preserved c =
    let m = c.args.circuit in
    let e = c.in-Some.ensures.cases in
    let h = room _ _ (sound_of m) _ m.shaped.0 _ _ _ c.loop-gate.invariant e.enough in
    rw take_rest (one_more _ _ (sound_of m) _ m.shaped.0 _ _ _ c.loop-gate.invariant e.enough _ e.same _ c.from.ensures _ (omega arith) c.output_of.ensures)

pub returns : goal.returns
returns c =
    let m = c.args.circuit in
    rw (all_done _ _ (sound_of m) _ m.shaped.0 _ _ _ c.loop-gate.invariant c.in_default.ensures.cases) at c.loop-gate.invariant.filled
