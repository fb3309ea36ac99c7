use Rattle.std.proofs.Common.{◌≡◌, arith}
use Rattle.circuit.specs.Checked.{registers_of}
use Rattle.fitting.proofs.Together.{turns_none, turns_more}
use Rattle.fitting.proofs.misfit_turns.Goals as goal

pub loop-r-init : goal.loop-r-init
loop-r-init c =
    let k = c.args.bench.circuit in
    turns_none c.args.bench.script.now k.gates.now k.registers.now k.times.now

pub loop-r-preserved : goal.loop-r-preserved
loop-r-preserved c =
    let k = c.args.bench.circuit in
    turns_more c.args.bench.script.now k.gates.now k.registers.now k.times.now c.loop-r.r _ _ _ c.earlier-first.ensures c.loop-r.invariant c.misfit_turn.ensures

pub returns : goal.returns
returns c =
    let all : c.loop-r.r ≡ registers_of c.args.bench.circuit = omega (arith, c.loop-r-test.false, c.loop-r.auto.r-end, c.register_count-r-end.ensures) in
    rw all at c.loop-r.invariant
