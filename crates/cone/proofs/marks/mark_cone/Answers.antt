use Rattle.std.proofs.Common.{◌≡◌, ◌<◌, ◌≤◌, ◌+◌, ◌-◌, Bool, length, arith}
use Rattle.std.proofs.Math.ListN.{length-set}
use Rattle.circuit.specs.Checked.{gates_of, signals_of}
use Rattle.cone.proofs.Marking.{first_mark, marked, all_marked, marking_at}
use Rattle.cone.proofs.marks.mark_cone.Goals as goal

pub loop-k-init : goal.loop-k-init
loop-k-init c =
    let m = c.args.circuit in
    record {
      few = omega (arith, c.saturating_sub-k.ensures, c.register_count-n.ensures);
      marking = first_mark m c.args.to c.requires.signal c.args.marks.now _ c.requires.none (omega arith) (omega (arith, c.saturating_sub-k.ensures, c.register_count-n.ensures));
    }

pub loop-k-preserved-then-marks-n : goal.loop-k-preserved-then-marks-n
loop-k-preserved-then-marks-n c =
    let m = c.args.circuit in
    let h : c.loop-k.k - 1 < gates_of m = omega (arith, c.loop-k.invariant.few, c.loop-k-test.true) in
    let last : c.loop-k.k ≡ c.loop-k.k - 1 + 1 = omega (arith, c.loop-k-test.true) in
    let room : signals_of m ≤ length c.loop-k.marks = omega (arith, c.loop-k.auto.marks, length-set {A = Bool}) in
    let on = rw c.register_count-n.ensures at c.if-marks-n.true in
    record {
      few = omega (arith, c.loop-k.invariant.few);
      marking = rw c.mark_inputs.ensures (marked m c.args.to c.requires.signal c.loop-k.k (c.loop-k.k - 1) c.loop-k.marks last h room c.loop-k.invariant.marking on);
    }

pub returns-clause-cone : goal.returns-clause-cone
returns-clause-cone c =
    let none : c.loop-k.k ≡ 0 = omega (arith, c.loop-k-test.false) in
    all_marked c.args.circuit c.args.to c.requires.signal c.loop-k.marks (marking_at c.args.circuit c.args.to _ _ c.loop-k.marks none c.loop-k.invariant.marking)
