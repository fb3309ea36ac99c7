use Rattle.std.proofs.Common.{arith}
use Rattle.circuit.proofs.Known.{registers_small, sound_of, times_small}
use Rattle.arrival.specs.declared.edge.Edge.TheVariants.{Late, Early}
use Rattle.arrival.proofs.Turns.{over_registers, small_source}
use Rattle.arrival.proofs.filling.fill_from_registers.Goals as goal

pub fill_gates-requires-clause-late : goal.fill_gates-requires-clause-late
fill_gates-requires-clause-late c i h =
    let r = registers_small c.args.circuit in
    let t = times_small c.args.circuit in
    omega (arith, c.fill_registers.ensures.late.filled i (rw c.register_count.ensures at h), small_source Late c.args.circuit.registers.now c.args.circuit.times.now i r t)

pub fill_gates-requires-clause-early : goal.fill_gates-requires-clause-early
fill_gates-requires-clause-early c i h =
    let r = registers_small c.args.circuit in
    let t = times_small c.args.circuit in
    omega (arith, c.fill_registers.ensures.early.filled i (rw c.register_count.ensures at h), small_source Early c.args.circuit.registers.now c.args.circuit.times.now i r t)

pub returns : goal.returns
returns c =
    let sound = sound_of c.args.circuit in
    let late = rw c.register_count.ensures at c.fill_gates.ensures.late in
    let early = rw c.register_count.ensures at c.fill_gates.ensures.early in (
      (omega arith, omega arith),
      over_registers Late c.args.circuit.gates.now c.args.circuit.registers.now c.args.circuit.times.now _ _ _ sound c.fill_registers.ensures.late late,
      over_registers Early c.args.circuit.gates.now c.args.circuit.registers.now c.args.circuit.times.now _ _ _ sound c.fill_registers.ensures.early early,
    )
