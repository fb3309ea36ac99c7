use Rattle.std.proofs.Common.{◌+◌}
use Rattle.circuit.specs.Checked.{of, registers_of}
use Rattle.cone.specs.Alone.{KnowsMarked}
use Rattle.cone.proofs.times.fill_marked.Given as goal

abbrev pub invariant-loop-k : goal.invariant-loop-k
invariant-loop-k l = of l.circuit KnowsMarked l.edge l.marks (registers_of l.circuit + l.k) l.times
