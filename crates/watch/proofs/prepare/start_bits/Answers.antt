use Rattle.std.proofs.Common.{◌≡◌, arith}
use Rattle.circuit.specs.Checked.{of, registers_of}
use Rattle.script.specs.Told.{start_told}
use Rattle.watch.proofs.Beside.{no_bits, bits_more}
use Rattle.watch.proofs.prepare.start_bits.Goals as goal

pub loop-r-init : goal.loop-r-init
loop-r-init c = rw c.in_ok-bits.ensures.items (no_bits (of c.args.bench.circuit (start_told c.args.bench.script.now)))

pub loop-r-preserved : goal.loop-r-preserved
loop-r-preserved c =
    rw c.in_ok-push.ensures.items (bits_more c.loop-r.r (of c.args.bench.circuit (start_told c.args.bench.script.now)) _ c.start_bit.result c.start_bit.ensures c.loop-r.invariant)

pub returns : goal.returns
returns c =
    let all : c.loop-r.r ≡ registers_of c.args.bench.circuit = omega (arith, c.loop-r-test.false, c.loop-r.auto.r-end, c.register_count-n.ensures) in
    rw all at c.loop-r.invariant
