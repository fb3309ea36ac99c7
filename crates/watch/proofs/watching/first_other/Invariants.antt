use Rattle.std.proofs.Common.{◌≡◌, ℕ, ◌<◌}
use Rattle.drawing.specs.Lent.{bit_at}
use Rattle.watch.proofs.watching.first_other.Given as goal

abbrev pub invariant-loop-q : goal.invariant-loop-q
invariant-loop-q l = (p : ℕ) → p < l.q → bit_at l.held p ≡ bit_at l.drawn p
