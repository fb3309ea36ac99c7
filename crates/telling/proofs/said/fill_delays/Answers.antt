use Rattle.std.proofs.Common.{◌≡◌, ◌<◌, None, length, get_or, ap, ◌∙◌, arith}
use Rattle.circuit.specs.Lent.{gate_in}
use Rattle.circuit.specs.declared.gate.Gate.{Gate}
use Rattle.circuit.specs.Checked.{gates_of}
use Rattle.step.specs.Lent.{no_delays}
use Rattle.step.specs.declared.told.Delays.{Delays}
use Rattle.telling.specs.Said.{one_of, two_of}
use Rattle.telling.proofs.Keeping.{held_more}
use Rattle.telling.proofs.said.fill_delays.Goals as goal

pub loop-k-preserved : goal.loop-k-preserved
loop-k-preserved c =
    let k = c.loop-k.k in
    let t = c.args.t in
    let said = c.args.said.now in
    let seed = c.args.bench.script.now.seed in
    let gates = c.args.bench.circuit.gates.now in
    let is = c.gates-numbers-items.ensures in
    let here : k < gates_of c.args.bench.circuit = omega (arith, is.count, c.loop-k-test.true) in
    let room : k < length c.loop-k.delays = omega (arith, c.requires.room, c.loop-k.auto.delays) in
    record {
      one = held_more no_delays (λ i (v : Delays). v.one ≡ one_of seed (gate_in gates i) i t (get_or said i None)) c.loop-k.delays k c.delays_of.result room
          (c.delays_of.ensures.one ∙ ap (λ (g : Gate). one_of seed g k t (get_or said k None)) (is.each k here)) c.loop-k.invariant.one;
      two = held_more no_delays (λ i (v : Delays). v.two ≡ two_of seed (gate_in gates i) i t (get_or said i None)) c.loop-k.delays k c.delays_of.result room
          (c.delays_of.ensures.two ∙ ap (λ (g : Gate). two_of seed g k t (get_or said k None)) (is.each k here)) c.loop-k.invariant.two;
    }

pub returns : goal.returns
returns c =
    let all : c.loop-k.k ≡ gates_of c.args.bench.circuit = omega (arith, c.gates-numbers-items.ensures.count, c.loop-k.auto.k-end, c.loop-k-test.false) in
    rw all at c.loop-k.invariant
