use Rattle.std.proofs.Common.{◌≡◌, ◌+◌, ◌*◌, ◌∙◌, arith}
use Rattle.circuit.specs.Checked.{registers_of}
use Rattle.circuit.proofs.Joined.{small_registers}
use Rattle.trial.proofs.Starts.{clocks_more}
use Rattle.trial.proofs.preparing.clock_bounds.Goals as goal

pub loop-numbers-preserved : goal.loop-numbers-preserved
loop-numbers-preserved c =
    let k = c.args.circuit in
    let q = c.loop-numbers.numbers-index in
    let is = c.registers-numbers-items.ensures in
    clocks_more k.registers.now q _ _ _ _ c.from-register.result (c.from-register.ensures ∙ is.each q (omega (arith, is.count))) c.min-earliest.ensures c.max-latest.ensures
    (small_registers k.gates.now k.registers.now k.times.now k.small (3 * q + 2)) c.loop-numbers.invariant

pub returns : goal.returns
returns c =
    let all : c.loop-numbers.numbers-index ≡ registers_of c.args.circuit = omega (arith, c.registers-numbers-items.ensures.count, c.loop-numbers.auto.numbers-index-end) in
    rw all at c.loop-numbers.invariant
