use Rattle.telling.specs.Said.{ShowsSaid}
use Rattle.telling.proofs.said.fill_shows.Given as goal

abbrev pub invariant-loop-r : goal.invariant-loop-r
invariant-loop-r l = ShowsSaid l.fn.bench.script.now l.t l.r l.said l.shows
