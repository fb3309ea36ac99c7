use Rattle.std.proofs.Common.{◌≡◌}
use Rattle.circuit.specs.Checked.{of, registers_of}
use Rattle.trial.specs.Standing.{Started}
use Rattle.trial.proofs.preparing.start_bits.Given as goal

abbrev pub invariant-loop-r : goal.invariant-loop-r
invariant-loop-r l = l.initial.bits.rows ≡ registers_of l.fn.bench.circuit → of l.fn.bench.circuit (Started l.fn.bench.script.now) l.r l.initial.bits l.bits
