use Rattle.std.proofs.Common.{◌<◌, ◌∙◌, arith}
use Rattle.circuit.proofs.Known.{gates_small, sound_from}
use Rattle.circuit.specs.Lent.{gate_count}
use Rattle.arrival.specs.declared.edge.Edge.TheVariants.{Late, Early}
use Rattle.arrival.proofs.Turns.{start, ready, turn}
use Rattle.arrival.proofs.filling.fill_gates.Goals as goal

pub loop-k-init : goal.loop-k-init
loop-k-init c =
    let small = gates_small c.args.circuit in
    let sound = sound_from c.args.circuit c.args.n c.requires.sources in
    (start Late _ _ c.args.circuit.few small sound _ c.requires.late, start Early _ _ c.args.circuit.few small sound _ c.requires.early)

pub time-requires-clause-fits : goal.time-requires-clause-fits
time-requires-clause-fits c =
    let small = gates_small c.args.circuit in
    let sound = sound_from c.args.circuit c.args.n c.requires.sources in
    let h : c.loop-k.k < gate_count c.args.circuit.gates.now = omega arith in
    ready Late _ _ c.args.circuit.few small sound _ c.requires.late c.loop-k.k h _ c.loop-k.invariant.0 _ (c.from-gate.ensures ∙ c.gates-gate-items.ensures.each c.loop-k.k h)

pub time-requires-in-loop-k-clause-fits : goal.time-requires-in-loop-k-clause-fits
time-requires-in-loop-k-clause-fits c =
    let small = gates_small c.args.circuit in
    let sound = sound_from c.args.circuit c.args.n c.requires.sources in
    let h : c.loop-k.k < gate_count c.args.circuit.gates.now = omega arith in
    ready Early _ _ c.args.circuit.few small sound _ c.requires.early c.loop-k.k h _ c.loop-k.invariant.1 _ (c.from-gate.ensures ∙ c.gates-gate-items.ensures.each c.loop-k.k h)

pub loop-k-preserved : goal.loop-k-preserved
loop-k-preserved c =
    let small = gates_small c.args.circuit in
    let sound = sound_from c.args.circuit c.args.n c.requires.sources in
    let h : c.loop-k.k < gate_count c.args.circuit.gates.now = omega arith in
    let gate = c.from-gate.ensures ∙ c.gates-gate-items.ensures.each c.loop-k.k h in (
      turn Late _ _ c.args.circuit.few small sound _ c.requires.late c.loop-k.k h _ c.loop-k.invariant.0 _ gate _ (omega arith) c.time.ensures,
      turn Early _ _ c.args.circuit.few small sound _ c.requires.early c.loop-k.k h _ c.loop-k.invariant.1 _ gate _ (omega arith) c.time-in-loop-k.ensures,
    )
