use Rattle.std.proofs.Common.{◌<◌, ◌∙◌, arith}
use Rattle.circuit.specs.Checked.{gates_of}
use Rattle.step.proofs.Remembering.{one_more}
use Rattle.step.proofs.gates.gates_now.Goals as goal

pub loop-k-preserved : goal.loop-k-preserved
loop-k-preserved c =
    let gates = c.gates-gate-items.ensures in
    let h : c.loop-k.k < gates_of c.args.circuit = omega (arith, gates.count) in
    one_more c.loop-k.k h (c.from.ensures ∙ gates.each c.loop-k.k h) c.gate_now-bit.ensures (rw c.register_count-n.ensures at c.put.ensures) c.loop-k.invariant
