use Rattle.std.proofs.Common.{◌≡◌, arith}
use Rattle.circuit.specs.Checked.{registers_of}
use Rattle.telling.proofs.Following.{none_first, first_more}
use Rattle.telling.proofs.clocks_told.begin.Goals as goal

pub loop-r-init : goal.loop-r-init
loop-r-init c =
    let k = c.args.bench.circuit in
    rw c.in_ok-clocks.ensures.items (none_first c.args.bench.script.now k.gates.now k.registers.now k.times.now)

pub loop-r-preserved : goal.loop-r-preserved
loop-r-preserved c =
    let k = c.args.bench.circuit in
    rw c.in_ok-push.ensures.items (first_more c.args.bench.script.now k.gates.now k.registers.now k.times.now c.loop-r.r _ c.first.result c.first.ensures c.loop-r.invariant)

pub returns : goal.returns
returns c =
    let all : c.loop-r.r ≡ registers_of c.args.bench.circuit = omega (arith, c.loop-r-test.false, c.loop-r.auto.r-end, c.register_count-n.ensures) in
    rw all at c.loop-r.invariant
