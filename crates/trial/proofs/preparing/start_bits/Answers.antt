use Rattle.std.proofs.Common.{◌≡◌, ◌<◌, arith}
use Rattle.circuit.specs.Checked.{registers_of}
use Rattle.trial.proofs.Starts.{started_more}
use Rattle.trial.proofs.preparing.start_bits.Goals as goal

pub loop-r-preserved : goal.loop-r-preserved
loop-r-preserved c rows =
    let k = c.args.bench.circuit in
    let h : c.loop-r.r < registers_of k = omega (arith, c.loop-r-test.true, c.register_count-r-end.ensures) in
    started_more c.args.bench.script.now k.gates.now k.registers.now k.times.now c.loop-r.r _ _ _ _ h rows (c.start_of.ensures k.gates.now k.registers.now k.times.now) c.put.ensures (c.loop-r.invariant rows)

pub returns : goal.returns
returns c rows =
    let all : c.loop-r.r ≡ registers_of c.args.bench.circuit = omega (arith, c.loop-r-test.false, c.loop-r.auto.r-end, c.register_count-r-end.ensures) in
    rw all at (c.loop-r.invariant rows)
