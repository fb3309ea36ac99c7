use Rattle.std.proofs.Common.{vec_items}
use Rattle.circuit.specs.Checked.{of}
use Rattle.script.specs.Told.{start_told}
use Rattle.watch.specs.Bits.{BitsOf}
use Rattle.watch.proofs.prepare.start_bits.Given as goal

abbrev pub invariant-loop-r : goal.invariant-loop-r
invariant-loop-r l = BitsOf l.r (of l.bench.circuit (start_told l.bench.script.now)) (vec_items l.bits)
