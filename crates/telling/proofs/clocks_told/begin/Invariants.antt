use Rattle.std.proofs.Common.{vec_items}
use Rattle.circuit.specs.Checked.{of}
use Rattle.telling.specs.Said.{FirstTold}
use Rattle.telling.proofs.clocks_told.begin.Given as goal

abbrev pub invariant-loop-r : goal.invariant-loop-r
invariant-loop-r l = of l.bench.circuit (FirstTold l.bench.script.now) l.r (vec_items l.clocks)
