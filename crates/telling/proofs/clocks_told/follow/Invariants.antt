use Rattle.circuit.specs.Checked.{of}
use Rattle.telling.specs.Said.{Followed}
use Rattle.telling.proofs.clocks_told.follow.Given as goal

abbrev pub invariant-loop-r : goal.invariant-loop-r
invariant-loop-r l = of l.fn.bench.circuit (Followed l.fn.bench.script.now) l.cycles l.r l.initial.clocks l.clocks
