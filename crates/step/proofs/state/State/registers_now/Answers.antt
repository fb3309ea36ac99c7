use Rattle.std.proofs.Common.{◌<◌, refl, arith}
use Rattle.circuit.specs.Checked.{registers_of}
use Rattle.step.proofs.Going.{one_more}
use Rattle.step.proofs.state.State.registers_now.Goals as goal

pub loop-r-preserved : goal.loop-r-preserved
loop-r-preserved c =
    let registers = c.registers-register-items.ensures in
    let h : c.loop-r.r < registers_of c.args.circuit = omega (arith, registers.count) in
    one_more {before = c.loop-r.self} h (omega (arith, c.loop-r.invariant.cycles_size, c.requires.cycles)) c.register_now-d.ensures refl c.put.ensures c.put-in-loop-r.ensures c.loop-r.invariant
